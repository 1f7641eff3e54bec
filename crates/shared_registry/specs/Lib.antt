pub mod Apart
pub mod History
pub mod Names
pub mod Legal
pub mod Stays
pub mod Lookups
pub mod Moments
