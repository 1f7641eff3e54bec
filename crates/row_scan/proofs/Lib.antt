pub mod Rows
pub mod Ids
pub mod Scanned
