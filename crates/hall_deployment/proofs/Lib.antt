pub mod Seeing
pub mod Slots
pub mod Begun
pub mod Runs
pub mod Servers
pub mod Registries
pub mod Names
