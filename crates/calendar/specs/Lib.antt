pub mod ShortViews
pub mod Due
pub mod Blocks
pub mod Hooks
pub mod DueViews
pub mod Waking
pub mod WakesViews
