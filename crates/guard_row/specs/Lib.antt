pub mod Row
pub mod Home
pub mod Steps
pub mod Errors
pub mod Laws
