pub mod Members
pub mod Ended
