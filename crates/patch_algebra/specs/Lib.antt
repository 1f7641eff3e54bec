pub mod Nets
pub mod Written
pub mod Laws
pub mod Names
pub mod Patches
pub mod Squashes
pub mod Gathered
