pub mod Replaying
pub mod Places
pub mod Edits
pub mod Source
pub mod Streaming
