pub mod Ranges
pub mod Strategies
