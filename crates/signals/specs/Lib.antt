pub mod Clash
pub mod Arcs
pub mod Spans
pub mod Rows
pub mod Signals
pub mod Views
