pub mod Covers
pub mod CoverLaws
