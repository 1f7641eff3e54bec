pub mod Added
pub mod After
