pub mod Starts
pub mod Entries
pub mod SpaceViews
pub mod Spaces
pub mod NodeStates
pub mod Choices
