pub mod Calls
pub mod History
pub mod Promise
pub mod Laws
pub mod Shown
