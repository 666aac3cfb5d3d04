pub mod Posts
pub mod Elements
pub mod Posting
pub mod Fines
pub mod Settling
pub mod Reached
