pub mod Asking
pub mod Faults
pub mod Fields
pub mod Follow
pub mod Framing
pub mod Heads
pub mod Room
pub mod Steps
