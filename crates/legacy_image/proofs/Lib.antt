pub mod Chunks
pub mod Determined
pub mod LegacyEntries
pub mod Readings
pub mod Values
pub mod Words
