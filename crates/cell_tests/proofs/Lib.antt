pub mod Listing
pub mod Pairs
pub mod Taking
