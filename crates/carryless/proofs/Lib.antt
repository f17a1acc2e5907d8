mod Multiples
mod Schoolbook
mod Squares
pub mod WideSums
