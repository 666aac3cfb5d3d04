pub mod Columns
pub mod Page
pub mod Answer
pub mod Laws
pub mod Examples
