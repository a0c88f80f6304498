pub mod Following
pub mod Told
pub mod InOrder
pub mod Skipping
pub mod Early
pub mod Departing
pub mod Joining
pub mod Beginning
