pub mod Gathering
pub mod Members
pub mod Netting
