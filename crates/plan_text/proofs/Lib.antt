pub mod Joins
pub mod Decimals
pub mod Clean
pub mod Back
pub mod Whole
pub mod Pushing
pub mod PlanFiles
