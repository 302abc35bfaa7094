pub mod Laws
pub mod LayerLaws
pub mod Merges
pub mod Turning
