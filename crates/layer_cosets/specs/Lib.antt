pub mod Cosets
pub mod OffsetAndBasis
