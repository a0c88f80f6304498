pub mod Nets
pub mod Views
pub mod Wheels
pub mod Cores
pub mod Exchanges
pub mod Starts
