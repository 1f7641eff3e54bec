pub mod Log
pub mod RunFaults
pub mod Fault
pub mod Opening
pub mod Ready
pub mod State
pub mod Run
pub mod Tail
