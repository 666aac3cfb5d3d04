pub mod Ready
pub mod Showing
