pub mod Rules
pub mod Conversion
pub mod Steps
