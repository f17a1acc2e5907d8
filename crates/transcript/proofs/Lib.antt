pub mod Numerals
pub mod Sections
pub mod Checks
pub mod Carried
pub mod Refusals
mod Positions
mod Fronts
pub mod Theorems
pub mod LongInputs
pub mod Shared
