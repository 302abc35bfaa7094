pub mod Declared
mod Examples
pub mod Growth
pub mod Inside
pub mod Made
pub mod Rules
pub mod SameTypes
pub mod Structs
pub mod Widths
