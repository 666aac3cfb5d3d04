pub mod Fresh
pub mod Stepping
