pub mod Writing
pub mod Lines
pub mod Codes
pub mod Runs
pub mod Steps
pub mod Transcripts
pub mod Readings
