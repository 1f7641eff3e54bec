pub mod Moving
pub mod Rising
