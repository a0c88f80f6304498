pub mod Some
pub mod Sent
pub mod Ending
pub mod Having
