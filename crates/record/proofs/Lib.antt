mod Writing
mod Outcomes
mod StepTests
pub mod Following
pub mod Readings
