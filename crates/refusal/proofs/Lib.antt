pub mod Checks
pub mod Theorems
