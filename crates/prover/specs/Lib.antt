pub mod Last
pub mod Proved
