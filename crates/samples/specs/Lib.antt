pub mod Samples
pub mod Rows
pub mod Agreement
