pub mod Cells
pub mod Filled
pub mod Filling
pub mod Made
