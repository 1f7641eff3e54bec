pub mod Behind
pub mod Placed
pub mod Texts
pub mod Walks
pub mod Undone
pub mod InPlace
pub mod Kept
