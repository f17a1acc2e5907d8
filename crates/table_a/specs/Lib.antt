pub mod TableA
pub mod Transcripts
pub mod Needed
