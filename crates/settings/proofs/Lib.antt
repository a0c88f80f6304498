pub mod Objects
pub mod Numbers
pub mod Alls
pub mod UnknownKeys
pub mod NumberedLemmas
pub mod ScoringRead
