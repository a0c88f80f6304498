pub mod Spans
pub mod Streams
pub mod Sending
pub mod Taking
pub mod Jobs
