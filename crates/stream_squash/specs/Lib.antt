pub mod Faults
pub mod Laws
pub mod Links
pub mod Pieces
pub mod Placing
pub mod Squashes
