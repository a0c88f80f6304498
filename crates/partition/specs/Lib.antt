pub mod Owned
pub mod Axes
pub mod Cuts
pub mod Halves
pub mod Homes
pub mod Neighbours
