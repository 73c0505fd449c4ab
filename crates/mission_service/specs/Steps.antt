-- What the private steps of this crate say; they lead to the definitions beside this folder.
pub mod Inside
pub mod Parts
