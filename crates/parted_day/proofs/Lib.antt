pub mod Borders
pub mod Senders
pub mod Vehicles
pub mod Freed
pub mod Rows
pub mod Nothing
pub mod Queues
pub mod Steps
pub mod Ready
pub mod Rounds
pub mod Own
pub mod Dawning
pub mod StrayRows
pub mod Pushed
pub mod Lags
pub mod Kept
pub mod Tabled
pub mod Strayed
pub mod Ridden
pub mod Ended
mod Sending
mod Telling
mod Going
mod Standing
mod Resting
