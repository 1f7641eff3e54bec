pub mod Pair
pub mod Files
