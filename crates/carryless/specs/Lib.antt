-- How the product of polynomials over GF(2) is computed.
pub mod Window
