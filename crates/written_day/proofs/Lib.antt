pub mod Days
pub mod Handled
