pub mod Theorems
pub mod Cases
pub mod Checks
pub mod Values
