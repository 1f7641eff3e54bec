pub mod Labels
pub mod LowerTags
pub mod Misfits
pub mod NameClasses
pub mod Schemes
pub mod Tags
