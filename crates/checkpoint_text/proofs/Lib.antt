pub mod Items
pub mod OneText
pub mod Ordered
