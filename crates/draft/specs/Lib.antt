pub mod Changes
pub mod Laws
pub mod Layer
pub mod Merging
pub mod Overlay
pub mod Soundness
pub mod Overlays
