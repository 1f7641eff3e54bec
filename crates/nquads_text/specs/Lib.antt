pub mod Fault
pub mod Faults
pub mod Grammar
pub mod Printing
pub mod Reading
pub mod Statement
pub mod Terms
pub mod Names
