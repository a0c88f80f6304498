pub mod Looking
pub mod Modes
pub mod NamedTables
pub mod Keys
pub mod Values
pub mod Scoring
pub mod Numbered
pub mod Faults
