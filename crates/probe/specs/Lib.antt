pub mod Last
pub mod Latest
