pub mod InLinks
pub mod Free
