pub mod NameLists
pub mod NameSets
pub mod Fronts
