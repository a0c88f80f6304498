pub mod Towns
pub mod Memories
