pub mod Keys
pub mod Blocks
pub mod Sums
pub mod Ranges
