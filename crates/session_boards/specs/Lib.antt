pub mod Session
pub mod Places
pub mod Device
pub mod Sizes
pub mod Counting
pub mod Laws
