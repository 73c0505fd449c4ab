pub mod RunLemmas
pub mod Cuts
pub mod Puts
pub mod Wearing
