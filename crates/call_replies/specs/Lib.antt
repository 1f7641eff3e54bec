pub mod Says
pub mod Telling
pub mod Faults
pub mod Ends
pub mod Links
