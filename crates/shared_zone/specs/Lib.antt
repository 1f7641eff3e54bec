pub mod History
pub mod Legal
pub mod Stays
pub mod Moments
