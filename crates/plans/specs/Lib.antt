pub mod Kinds
pub mod Refusals
pub mod Runs
pub mod Values
pub mod Progress
pub mod Read
