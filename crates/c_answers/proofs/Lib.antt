pub mod Five
pub mod Theorems
