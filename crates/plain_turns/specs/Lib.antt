pub mod Limits
pub mod LinkState
pub mod OutLinks
