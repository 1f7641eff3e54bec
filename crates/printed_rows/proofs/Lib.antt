pub mod Ids
pub mod Values
pub mod Lines
