pub mod Returns
pub mod Entered
pub mod Auctions
pub mod Discharging
pub mod ClosingDay
pub mod Fresh
