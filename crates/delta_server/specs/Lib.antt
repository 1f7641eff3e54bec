pub mod Ends
pub mod Files
pub mod Serving
pub mod Words
