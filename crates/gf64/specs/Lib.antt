-- The field of 2^64 elements: polynomials over GF(2), the operations, and what is proved of both.
pub mod Polynomial
pub mod Field
pub mod Theorems
