pub mod Sound
pub mod Faults
pub mod Checks
pub mod Lines
