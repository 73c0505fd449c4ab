pub mod Building
pub mod Classes
pub mod Matches
pub mod NumberLemmas
pub mod Turns
pub mod Values
pub mod Walks
