pub mod Lines
pub mod SoundCalls
pub mod Free
