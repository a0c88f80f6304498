pub mod Texts
pub mod Table
pub mod Calls
pub mod Packing
pub mod Told
