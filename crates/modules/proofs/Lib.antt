pub mod Adding
pub mod Columns
pub mod Decoding
pub mod ModuleBounds
pub mod NumberLaws
pub mod PartLaws
pub mod PlaceLaws
pub mod Sizes
