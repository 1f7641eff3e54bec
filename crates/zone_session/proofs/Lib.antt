mod Asked
mod Matched
mod Told
mod Faulting
mod Bringing
pub mod Served
pub mod Passing
pub mod Posts
