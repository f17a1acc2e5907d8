-- Polynomials over a carrier: evaluation, interpolant, rows, Newton's form, degree, and what is proved of them.
pub mod Carrier
pub mod Polynomial
pub mod Rows
pub mod Newton
pub mod Degree
pub mod Theorems
