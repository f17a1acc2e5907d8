mod Arrays
pub mod Cosets
