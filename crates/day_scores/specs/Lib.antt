pub mod Scores
pub mod Standing
pub mod Texts
