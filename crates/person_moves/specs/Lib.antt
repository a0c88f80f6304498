pub mod Credits
pub mod CreditsViews
pub mod Worlds
pub mod Places
pub mod Legs
pub mod Waiting
