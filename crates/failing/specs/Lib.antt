pub mod Members
pub mod Counts
