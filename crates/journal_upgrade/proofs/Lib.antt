pub mod Sets
pub mod Marker
pub mod Lengths
pub mod Loops
pub mod Readings
pub mod Brought
pub mod Safety
