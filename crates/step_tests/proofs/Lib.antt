pub mod Neighbours
pub mod Counting
