pub mod Turns
pub mod Entering
pub mod Elsewhere
pub mod Queues
pub mod Flow
