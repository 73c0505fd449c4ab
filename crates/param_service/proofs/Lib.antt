pub mod Showing
pub mod Asking
pub mod Numbers
pub mod Changing
