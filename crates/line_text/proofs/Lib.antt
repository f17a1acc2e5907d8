pub mod Decimals
pub mod Theorems
