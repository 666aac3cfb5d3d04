pub mod Returns
pub mod Started
pub mod Walking
