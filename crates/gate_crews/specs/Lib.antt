pub mod Crews
pub mod Gates
