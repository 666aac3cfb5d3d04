pub mod Digits
pub mod Checked
pub mod Size
pub mod Entries
