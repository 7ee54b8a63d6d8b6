pub mod Fault
pub mod Opening
pub mod Supplied
pub mod Any
