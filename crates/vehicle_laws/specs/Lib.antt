pub mod Fitting
pub mod Rows
pub mod Uploads
pub mod Laws
