-- What stands between the test of the directory and its rules.
pub mod Soundness
