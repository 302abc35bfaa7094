pub mod Search
pub mod Framed
pub mod Order
pub mod Ways
pub mod Merging
pub mod Agreement
