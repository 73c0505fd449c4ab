pub mod Requests
pub mod Budget
pub mod State
pub mod Service
pub mod Replies
pub mod Inside
pub mod Setting
