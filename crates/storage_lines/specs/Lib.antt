pub mod Bytes
pub mod Numbers
pub mod Areas
pub mod Lines
pub mod Pieces
pub mod Laws
