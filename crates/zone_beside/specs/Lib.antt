pub mod Beside
pub mod StandsBehind
pub mod Finding
pub mod Found
