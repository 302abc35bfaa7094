pub mod Kinds
pub mod Names
pub mod Ranges
pub mod Records
pub mod Refusals
pub mod Texts
