-- Encoding and interpolation over a coset: what they compute, what they answer, and what is proved of them.
pub mod Codes
pub mod Answers
pub mod Theorems
