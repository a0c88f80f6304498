pub mod Link
pub mod Flow
