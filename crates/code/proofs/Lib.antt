pub mod Outside
pub mod Dividing
pub mod Marking
pub mod Generating
pub mod ExponentMarks
pub mod EncodesInPlace
pub mod Valuing
