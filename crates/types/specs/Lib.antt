pub mod Abilities
pub mod Examples
pub mod Growth
pub mod Laws
pub mod Primitives
pub mod Types
