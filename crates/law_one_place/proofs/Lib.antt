pub mod Places
pub mod Boarding
pub mod Turns
pub mod Vehicles
