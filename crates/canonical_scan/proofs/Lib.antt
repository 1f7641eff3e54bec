pub mod AsciiLabels
pub mod Lines
pub mod LowerTags
pub mod Making
pub mod Pieces
pub mod Places
pub mod Terms
