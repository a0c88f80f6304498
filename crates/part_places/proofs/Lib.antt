pub mod Counting
pub mod Freed
pub mod Goings
pub mod Starting
