pub mod Cases
pub mod Commands
pub mod Given
