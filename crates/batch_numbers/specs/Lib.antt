-- A part of a list of accesses.
pub mod Part
