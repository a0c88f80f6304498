pub mod InLinkViews
pub mod InLinks
pub mod Phase
pub mod Steady
pub mod Turns
