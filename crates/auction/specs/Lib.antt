pub mod Offers
pub mod Ordering
pub mod Awards
