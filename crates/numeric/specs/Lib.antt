-- Sums, bits and ranges of numbers.
pub mod Range
pub mod Bits
