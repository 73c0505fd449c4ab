-- What the private steps of a replay say.
pub mod Places
pub mod Answers
pub mod Still
pub mod Replaying
