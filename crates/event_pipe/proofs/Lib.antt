pub mod Rings
pub mod Made
pub mod Calls
