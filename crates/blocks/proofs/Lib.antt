-- Laws that several functions' proofs share.
pub mod Copies
pub mod StoreLaws
