pub mod Asking
pub mod Matching
pub mod Telling
pub mod Answered
pub mod Sessions
pub mod Working
pub mod Laws
