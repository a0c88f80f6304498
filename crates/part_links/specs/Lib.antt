pub mod Links
pub mod Phase
