pub mod Due
pub mod AgentsViews
