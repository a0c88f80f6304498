pub mod Conflicts
mod NetworkRows
mod Numbers
mod Persons
pub mod Valid
mod RowNames
pub mod Books
