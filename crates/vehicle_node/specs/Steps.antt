-- What the private steps of a node say: they lead to the definitions beside this folder.
pub mod Calls
pub mod Inside
pub mod Errors
pub mod Opening
pub mod Answering
pub mod Sending
pub mod Hearing
