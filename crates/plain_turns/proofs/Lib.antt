pub mod Small
pub mod Taken
pub mod Drawing
pub mod Sorting
