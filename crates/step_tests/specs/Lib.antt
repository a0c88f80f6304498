pub mod Rows
pub mod Counters
