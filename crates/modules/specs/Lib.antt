pub mod Adding
pub mod Bounds
pub mod Examples
pub mod Modules
pub mod Rows
pub mod Visibilities
