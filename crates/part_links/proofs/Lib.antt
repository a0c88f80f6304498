pub mod Numbers
pub mod Heard
pub mod Standing
pub mod Whole
