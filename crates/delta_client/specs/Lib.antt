pub mod Kinds
pub mod Asking
pub mod Lines
pub mod Memory
pub mod Exchanges
pub mod Serving
