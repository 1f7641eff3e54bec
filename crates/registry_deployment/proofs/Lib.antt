pub mod Fronts
pub mod Left
pub mod Calling
pub mod Given
pub mod Brought
pub mod Kept
pub mod Shown
pub mod Slots
