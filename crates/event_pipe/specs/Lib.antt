pub mod Tallies
pub mod Pieces
pub mod Rings
pub mod Pipes
