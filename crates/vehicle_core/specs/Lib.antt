pub mod Orders
pub mod Vehicle
pub mod CoreState
pub mod Acts
pub mod Laws
pub mod Replies
pub mod Inside
