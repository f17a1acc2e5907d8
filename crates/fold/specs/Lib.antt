-- The fold: its entries, rows and exceptional sets, what it answers, how it is computed, and what is proved of it.
pub mod Fold
pub mod Rows
pub mod Exceptional
pub mod Answers
pub mod Halving
pub mod Theorems
