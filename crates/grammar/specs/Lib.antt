pub mod Grammar
pub mod Order
