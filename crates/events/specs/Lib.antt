pub mod Names
pub mod Keys
pub mod Words
pub mod Lines
pub mod Persons
