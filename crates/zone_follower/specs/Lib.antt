pub mod Following
pub mod Causes
pub mod Bringing
