pub mod Texts
pub mod Fresh
pub mod Serving
pub mod Replays
pub mod Sessions
pub mod Statuses
pub mod Steps
