pub mod Readings
pub mod Disks
pub mod Files
pub mod Checkpoints
pub mod Following
