pub mod Causes
pub mod Effects
pub mod Files
pub mod Inputs
pub mod Keeping
pub mod Reasons
pub mod World
pub mod InMemory
