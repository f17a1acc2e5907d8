pub mod Folding
pub mod Exceptional
pub mod Lines
pub mod Theorems
pub mod Cases
pub mod Checks
pub mod Outcomes
pub mod AllCosets
