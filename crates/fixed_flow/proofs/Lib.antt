pub mod Gains
pub mod Window
