pub mod Frames
pub mod Reading
pub mod Runs
pub mod Arming
pub mod Boot
pub mod Safe
pub mod Guard
pub mod Laws
