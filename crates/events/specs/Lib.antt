pub mod Layout
pub mod Body
pub mod Spare
pub mod Masks
pub mod Inverse
pub mod Passing
