pub mod ClosingDay
