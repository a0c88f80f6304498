pub mod Told
pub mod Together
pub mod Writing
pub mod Handed
pub mod Coming
pub mod Due
pub mod Both
