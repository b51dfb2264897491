-- The size of a record, for a program in another language.
pub mod Calls
pub mod Examples
