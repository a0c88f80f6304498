pub mod Carried
pub mod Pairs
pub mod Ports
pub mod Rings
pub mod Rule
