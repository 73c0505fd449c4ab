pub mod Wearing
pub mod Standing
pub mod Guard
pub mod Refusals
pub mod Steps
