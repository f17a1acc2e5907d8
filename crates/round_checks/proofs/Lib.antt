pub mod StepSizes
mod QueryPoints
pub mod Tables
pub mod Runs
pub mod Passing
pub mod Judged
