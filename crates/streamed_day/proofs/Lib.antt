pub mod Unique
pub mod Dealing
pub mod Merged
pub mod Views
pub mod Coming
