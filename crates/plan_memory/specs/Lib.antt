pub mod Scores
pub mod Choices
pub mod Memories
pub mod Views
