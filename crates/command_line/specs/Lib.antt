pub mod App
pub mod Arguments
pub mod Commands
pub mod Lines
pub mod Matches
pub mod Numbers
