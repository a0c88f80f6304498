pub mod Counts
pub mod Handling
