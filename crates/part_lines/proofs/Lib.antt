pub mod Behind
pub mod News
pub mod Standing
pub mod Ready
