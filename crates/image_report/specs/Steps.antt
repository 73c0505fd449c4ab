-- What the private steps of a text say.
pub mod Errors
pub mod Looks
pub mod Writes
