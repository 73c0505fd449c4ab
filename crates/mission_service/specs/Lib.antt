pub mod Uploads
pub mod Requests
pub mod Service
pub mod Replies
pub mod Asked
pub mod Steps
