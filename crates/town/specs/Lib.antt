pub mod Rows
pub mod Fits
pub mod Setups
pub mod Views
