pub mod Networks
pub mod Turns
