pub mod Numbers
pub mod Copies
pub mod Faults
pub mod Marker
pub mod Upgraded
pub mod Safe
