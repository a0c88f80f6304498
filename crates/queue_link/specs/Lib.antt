pub mod Numbers
pub mod Links
pub mod Views
pub mod Turns
pub mod Waking
pub mod Loops
pub use Rattle.law_sleeping.specs.Quiet
