mod Values
pub mod TableA
pub mod Needed
mod Sheets
pub mod Transcripts
