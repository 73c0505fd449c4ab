pub mod Pattern
pub mod Rounding
