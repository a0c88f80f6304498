pub mod Dropping
pub mod Weights
pub mod Orders
