pub mod Posts
pub mod Parts
pub mod Tabled
pub mod Settling
