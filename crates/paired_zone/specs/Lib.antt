pub mod Fault
pub mod Zone
pub mod State
pub mod Opening
pub mod Takes
pub mod Large
pub mod Checkpointing
