pub mod Texts
pub mod Faults
pub mod Legs
pub mod FilesToScenario
pub mod Fitting
pub mod LegChecks
pub mod Views
