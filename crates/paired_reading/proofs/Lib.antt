pub mod Differing
pub mod Breaking
pub mod Going
