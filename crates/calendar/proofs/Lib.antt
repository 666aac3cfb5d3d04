pub mod Rising
pub mod Business
