pub mod LawsBelow
pub mod RunLaws
pub mod Orders
pub mod Acknowledging
pub mod Floors
pub mod Readings
pub mod BootLaws
pub mod Senders
