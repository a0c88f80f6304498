pub mod Numbers
pub mod Meeting
pub mod Exact
pub mod Steps
pub mod Lawful
