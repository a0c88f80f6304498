mod Lists
pub mod Ending
mod Crossing
pub mod Flying
pub mod Sending
mod Hearing
mod Taking
mod Going
