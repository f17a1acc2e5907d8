pub mod Rounds
pub mod Judging
