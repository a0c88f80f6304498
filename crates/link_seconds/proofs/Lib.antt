pub mod Holding
pub mod Leading
pub mod Beginning
pub mod Turning
