pub mod Others
pub mod MaskTable
pub mod TwoWords
pub mod Writing
