pub mod Isin
pub mod Register
pub mod Accepted
