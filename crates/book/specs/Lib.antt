pub mod View
pub mod Opening
pub mod Stepping
