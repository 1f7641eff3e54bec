pub mod Lanes
pub mod Turns
pub mod Steps
pub mod Sights
pub mod Knowing
pub mod Sharing
pub mod Calls
pub mod Moments
