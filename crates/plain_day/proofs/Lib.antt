pub mod Numbers
pub mod Seen
pub mod Fitting
pub mod Agree
pub mod LinkTurns
pub mod PersonPlans
pub mod NodeTurns
