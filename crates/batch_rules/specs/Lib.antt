-- A list of accesses in one call.
pub mod Outcome
pub mod Batch
pub mod Sentences
pub mod Split
pub mod Batches
pub mod Numbers
pub mod Examples
