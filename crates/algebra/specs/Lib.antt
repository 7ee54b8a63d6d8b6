pub mod Arith
pub mod Search
pub mod Codes
pub mod Binary
pub mod Abstract
pub mod Words
pub mod BlockCode
pub mod BlockCodeLaws
