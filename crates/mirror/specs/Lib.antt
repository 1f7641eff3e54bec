pub mod Ends
pub mod Pulling
pub mod Following
pub mod Calling
