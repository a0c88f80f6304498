pub mod Kept
pub mod Fitting
pub mod Reading
pub mod Worked
pub mod InMemory
pub mod KeeperViews
