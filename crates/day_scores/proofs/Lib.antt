pub mod Persons
pub mod Standing
pub mod Ending
pub mod LinesWritten
