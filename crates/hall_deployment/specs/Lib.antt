pub mod Seen
pub mod Halls
pub mod Laws
pub mod Servers
