-- The transcript: numbers in bytes, sections, refusals, the verdict, and what is proved of them.
pub mod Numerals
pub mod Sections
pub mod Checks
pub mod Judge
pub mod Theorems
