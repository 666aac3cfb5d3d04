pub mod Digits
pub mod Lines
pub mod Pages
pub mod Lengths
pub mod Examples
