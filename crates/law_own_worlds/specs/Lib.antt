pub mod OwnWorlds
pub mod Making
pub mod Days
