pub mod Values
pub mod Kinds
pub mod Codes
pub mod Factors
pub mod Published
pub mod States
