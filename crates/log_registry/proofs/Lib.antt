pub mod States
pub mod Made
pub mod Writes
pub mod Answered
pub mod Reopened
