pub mod Faults
pub mod Sets
pub mod Taking
pub mod Ends
pub mod Slots
pub mod Directories
pub mod Zones
