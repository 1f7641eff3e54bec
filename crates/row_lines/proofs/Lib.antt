pub mod Settled
pub mod Written
pub mod Rows
