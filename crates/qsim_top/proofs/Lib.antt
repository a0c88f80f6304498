pub mod Reports
pub mod Ending
pub mod Worked
pub mod Resumed
pub mod Grids
pub mod InTurn
pub mod Alike
mod Lawful
mod Routed
mod Stopped
mod Resumes
