pub mod Layout
pub mod File
pub mod Examples
pub mod Inverse
pub mod Passing
