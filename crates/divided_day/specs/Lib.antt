pub mod Borders
pub mod Days
pub mod Divisions
pub mod Slots
