pub mod Closing
pub mod Lines
pub mod Reading
pub mod Outcomes
