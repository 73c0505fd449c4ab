pub mod Writing
pub mod Table
pub mod Pieces
pub mod Found
pub mod TextLaws
pub mod Answering
pub mod Numbered
