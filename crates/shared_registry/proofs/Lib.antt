pub mod Histories
mod Calling
mod Asking
pub mod Adding
mod OnDisk
pub mod Moments
