pub mod Chunks
pub mod Front
pub mod Line
pub mod Messages
pub mod Stages
