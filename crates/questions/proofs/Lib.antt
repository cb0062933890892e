pub mod Products
pub mod Choices
pub mod Depths
pub mod Roots
pub mod Webs
pub mod StudCounts
