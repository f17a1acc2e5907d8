-- What the programs' proofs cite.
pub mod Known
pub mod Printed
