pub mod Theorems
pub mod Judged
