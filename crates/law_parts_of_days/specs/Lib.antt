pub mod Settling
pub mod Persons
pub mod Riding
pub mod Sole
