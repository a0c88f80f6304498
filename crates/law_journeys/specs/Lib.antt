pub mod News
pub mod Journeys
