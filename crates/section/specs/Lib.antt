pub mod Strips
pub mod Sums
pub mod Parts
pub mod Axis
pub mod Blocks
pub mod BlockLaws
pub mod Adding
