pub mod Running
pub mod Seconds
pub mod Making
pub mod Knowing
pub mod Fitting
pub mod Staying
pub mod Days
pub mod Standing
