pub mod DirectoryLaws
pub mod Inverse
pub mod Examples
