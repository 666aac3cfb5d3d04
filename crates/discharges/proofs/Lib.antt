pub mod Delivering
pub mod Confirming
pub mod Settling
