pub mod Wanting
pub mod Finding
pub mod Parts
pub mod Routing
