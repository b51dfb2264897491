pub mod Spaces
pub mod CappedLaws
