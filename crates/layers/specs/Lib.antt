pub mod Layers
pub mod Soundness
