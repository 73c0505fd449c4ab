pub mod Lists
pub mod Register
pub mod Bytes
pub mod Usual
pub mod Pairs
pub mod Pieces
pub mod Uniqueness
pub mod ByteLists
