pub mod Calls
pub mod Held
pub mod Replays
pub mod Steps
