pub mod Labels
pub mod Rounds
pub mod Ranks
pub mod Kept
pub mod Least
pub mod Followed
pub mod Settled
pub mod Delayed
