pub mod Claim
pub mod Playing
