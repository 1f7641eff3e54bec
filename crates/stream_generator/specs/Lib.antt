pub mod Appended
pub mod Cursor
pub mod Generator
