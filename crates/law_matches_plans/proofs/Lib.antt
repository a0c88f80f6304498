pub mod Events
pub mod Turns
pub mod Days
pub mod Sound
pub mod InTime
mod Plans
mod Schedule
pub mod Scored
pub mod ScoredTowns
pub mod Towns
