pub mod Parameters
pub mod Parts
pub mod Lengths
