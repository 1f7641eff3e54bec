mod Asked
mod Told
mod Faulting
mod Reading
mod Acting
pub mod Served
mod Passing
mod Posts
