mod Walks
mod Standing
mod Telling
mod Taking
pub mod Moments
