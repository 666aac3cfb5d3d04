pub mod Places
pub mod Today
pub mod Filling
pub mod Totalling
pub mod Made
pub mod Appending
