pub mod Stands
pub mod Fault
pub mod State
pub mod Changes
pub mod Making
