pub mod Brief
pub mod Text
