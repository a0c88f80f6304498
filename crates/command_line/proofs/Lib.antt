mod Answered
mod OneKind
pub mod Arguments
pub mod Words
