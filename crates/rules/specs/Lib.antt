pub mod Classes
pub mod Windows
pub mod Prices
pub mod Charges
pub mod Charged
