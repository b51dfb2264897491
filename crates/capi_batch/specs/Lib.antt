-- A list of accesses in one call, as it crosses to a program in another language.
pub mod Batch
