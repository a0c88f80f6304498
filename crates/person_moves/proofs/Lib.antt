pub mod Removals
pub mod Running
pub mod Lists
pub mod PersonPlans
pub mod Leaving
pub mod Departing
pub mod LinkRows
pub mod Counting
