pub mod Auctioning
