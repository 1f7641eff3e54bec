mod Ended
pub mod Faulting
mod Refused
