pub mod Digits
pub mod Lines
pub mod Theorems
