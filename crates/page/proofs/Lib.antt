pub mod Laying
pub mod Legible
pub mod Writing
pub mod Answers
pub mod Told
