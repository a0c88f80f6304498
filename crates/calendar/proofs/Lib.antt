pub mod Tables
pub mod InBlocks
pub mod Laid
pub mod Quiet
pub mod Ascending
pub mod Hung
pub mod Woken
