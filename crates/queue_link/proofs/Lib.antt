pub mod Fronts
pub mod Steps
pub mod Bays
pub mod Dues
pub mod Looping
