pub mod Stops
pub mod Calls
pub mod Routes
pub mod Departures
pub mod Views
