-- What is proved of the definitions, in one place.
pub mod Theorems
