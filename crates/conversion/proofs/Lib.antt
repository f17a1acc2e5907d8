pub mod Halving
mod Runs
