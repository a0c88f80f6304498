pub mod Written
pub mod Streaming
pub mod Listing
