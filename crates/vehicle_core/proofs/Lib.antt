pub mod Machine
pub mod Arming
