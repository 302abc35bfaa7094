pub mod BadLines
pub mod Hex
pub mod Lines
pub mod Words
