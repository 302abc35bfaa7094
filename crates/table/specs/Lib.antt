pub mod Editing
pub mod Order
pub mod Rows
pub mod Searching
pub mod Numbers
