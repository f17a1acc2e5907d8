pub mod Entries
pub mod Sums
pub mod Evaluation
pub mod Roots
pub mod Interpolation
pub mod Division
pub mod Rows
pub mod Newton
pub mod Degree
pub mod Identity
pub mod Vanishing
pub mod Combined
pub mod Theorems
pub mod AtField
pub mod Filling
pub mod Parts
mod Horner
