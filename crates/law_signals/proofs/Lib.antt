pub mod Greens
pub mod Days
