pub mod Rows
pub mod Fields
pub mod Numbers
pub mod Lists
pub mod Faults
pub mod Files
pub mod Reading
pub mod Tables
