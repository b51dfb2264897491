pub mod ForetellLaws
pub mod Examples
