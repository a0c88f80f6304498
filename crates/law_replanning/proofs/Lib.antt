pub mod Rerouted
pub mod Mutated
pub mod Choosing
pub mod Remembered
