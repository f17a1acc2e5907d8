-- The transcript of a run as it is written, the writer's answers, and what is proved of them.
pub mod Bytes
pub mod Transcript
pub mod Writer
pub mod Theorems
