mod Addresses
mod EndOfPositions
mod Pieces
mod Printed
mod WalkOfPositions
pub mod Words
