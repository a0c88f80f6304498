pub mod Places
pub mod Others
