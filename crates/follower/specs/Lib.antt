pub mod Calls
pub mod Footing
pub mod Taking
pub mod Grown
pub mod Syncing
pub mod Replicas
pub mod Causes
pub mod Chains
