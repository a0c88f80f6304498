pub mod Dues
pub mod Phases
pub mod Own
pub mod Starts
