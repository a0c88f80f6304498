pub mod Arrivals
pub mod Walks
pub mod Rounds
pub mod Certificates
pub mod Chosen
pub mod Alike
pub mod Worked
