pub mod Dealt
pub mod Slots
pub mod Lent
pub mod Rooms
pub mod Files
pub mod Ends
pub mod Visits
pub mod Laws
