pub mod Hex
pub mod Marks
pub mod Places
