pub mod Cosets
