pub mod NextLayers
