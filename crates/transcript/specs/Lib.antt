pub mod Parts
pub mod Transcript
pub mod Texts
pub mod Playing
pub mod Whole
pub mod Cut
