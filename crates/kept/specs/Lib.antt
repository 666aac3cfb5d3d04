pub mod View
pub mod Changing
pub mod Auctions
pub mod Closing
pub mod Discharging
