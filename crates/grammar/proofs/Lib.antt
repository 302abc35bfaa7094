pub mod Begun
pub mod Built
pub mod Parsed
pub mod Steps
