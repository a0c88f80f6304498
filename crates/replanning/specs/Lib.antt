pub mod Acts
pub mod Legs
pub mod Persons
pub mod Views
