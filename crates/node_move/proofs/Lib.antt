pub mod Single
pub mod Reaching
pub mod Entries
pub mod Blocks
pub mod Runs
pub mod Fronts
pub mod Places
pub mod Drawing
