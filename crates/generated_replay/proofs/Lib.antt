mod Values
pub mod Rows
pub mod Cutting
pub mod Chained
pub mod Counted
