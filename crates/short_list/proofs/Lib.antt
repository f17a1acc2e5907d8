pub mod Zeros
