pub mod Texts
pub mod Dumps
pub mod Reports
pub mod Writes
pub mod Refusals
pub mod Laws
pub mod Steps
