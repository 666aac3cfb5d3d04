pub mod View
pub mod Cores
pub mod Answers
