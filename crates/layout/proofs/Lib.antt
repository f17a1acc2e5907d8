pub mod Sizes
pub mod Parts
