pub mod Reports
pub mod LabelLines
pub mod Telling
