-- Cosets: points, span, the test of independence, the next coset, refusals, and what is proved of them.
pub mod Coset
pub mod Span
pub mod Elimination
pub mod Sequence
pub mod Subspace
pub mod Steps
pub mod Answers
pub mod Theorems
