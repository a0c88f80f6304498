pub mod Grids
pub mod Links
pub mod Commuters
pub mod Rows
pub mod Texts
