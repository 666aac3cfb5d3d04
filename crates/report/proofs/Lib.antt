pub mod Stored
pub mod Blocks
pub mod Amounts
pub mod Texts
