-- The additive transform: what it computes step by step, and what is proved of it.
pub mod Transform
pub mod Theorems
