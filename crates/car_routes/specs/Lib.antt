pub mod Plans
pub mod Wanted
pub mod Found
