-- What the private steps of a survey say.
pub mod Errors
pub mod Calls
