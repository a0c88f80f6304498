pub mod Owners
pub mod Parts
pub mod Core
pub mod Merge
