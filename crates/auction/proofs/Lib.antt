pub mod Ahead
pub mod Cells
pub mod Placing
pub mod Takings
pub mod Numbered
