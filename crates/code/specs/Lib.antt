pub mod Fault
pub mod Calls
pub mod Marks
pub mod Opening
pub mod Opened
