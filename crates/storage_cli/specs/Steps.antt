-- What the private steps of a command say.
pub mod Endings
pub mod Guard
pub mod Printing
pub mod Progress
pub mod Replaying
pub mod Sessions
pub mod Stops
