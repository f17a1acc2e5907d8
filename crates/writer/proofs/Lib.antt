mod Lengths
mod Checks
pub mod Theorems
