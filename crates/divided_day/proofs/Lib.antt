mod Bordering
mod Counting
pub mod Lists
mod Scanning
mod Single
mod Slotted
mod Telling
pub mod Whole
