mod Keys
mod Counts
mod Merged
pub mod Told
