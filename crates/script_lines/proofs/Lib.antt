pub mod OneReading
pub mod Texts
pub mod Bytes
