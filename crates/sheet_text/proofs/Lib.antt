pub mod Lines
pub mod Sheets
pub mod Marks
pub mod Values
pub mod Theorems
pub mod Fronts
