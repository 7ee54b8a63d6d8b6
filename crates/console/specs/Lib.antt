pub mod Words
pub mod Lines
pub mod Answers
pub mod Reading
pub mod Desk
