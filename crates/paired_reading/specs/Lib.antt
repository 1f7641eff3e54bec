pub mod Payloads
pub mod Fault
pub mod Unread
pub mod Received
