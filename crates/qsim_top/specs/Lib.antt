pub mod Contents
pub mod Texts
pub mod Answer
pub mod Came
pub mod Held
pub mod Reading
pub mod Laws
