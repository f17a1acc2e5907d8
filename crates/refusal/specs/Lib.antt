-- Refusals: their numbers, places and rounds, and checks one after the other.
pub mod Outcome
pub mod Numbers
pub mod Checks
pub mod Theorems
