pub mod Gathered
pub mod Posted
mod Risen
