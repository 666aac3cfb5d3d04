pub mod Places
pub mod Checking
pub mod Writing
pub mod Answers
