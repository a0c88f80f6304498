pub mod Moved
pub mod Numbers
pub mod Kept
