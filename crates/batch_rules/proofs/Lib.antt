-- The laws of lists of accesses.
pub mod OutcomeLaws
pub mod Before
pub mod RanLaws
pub mod Sentences
pub mod SplitLaws
pub mod NumbersLaws
pub mod Batches
pub mod Examples
