pub mod Listed
pub mod Pieces
pub mod Commands
pub mod Totals
pub mod Puts
pub mod ReadLemmas
pub mod Touched
pub mod Setting
