pub mod Lines
pub mod Wearing
pub mod Entries
pub mod Losses
pub mod Steps
