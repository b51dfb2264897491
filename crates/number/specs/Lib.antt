-- Numbers as bytes.
pub mod Number
pub mod Spelling
pub mod Examples
