pub mod Breaks
pub mod Guard
pub mod Histories
pub mod Playing
pub mod Keeping
