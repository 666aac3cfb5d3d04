pub mod Bits
pub mod Turning
pub mod Counting
pub mod Shorts
pub mod Keeping
pub mod Discharging
pub mod Raising
