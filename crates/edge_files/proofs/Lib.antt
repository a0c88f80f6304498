pub mod Placed
pub mod Written
pub mod Worlds
pub mod Read
pub mod Performing
pub mod InMemoryReads
pub mod InMemoryWrites
