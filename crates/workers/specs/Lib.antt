pub mod Parcels
pub mod Members
pub mod Pairs
pub mod Exchanges
pub mod Sharing
pub mod Running
