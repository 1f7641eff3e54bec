pub mod Runs
pub mod Values
pub mod Patches
pub mod Gathers
pub mod Backwards
pub mod Squashing
pub mod Ends
