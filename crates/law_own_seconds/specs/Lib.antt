pub mod Seconds
pub mod Places
pub mod Leaving
pub mod Others
