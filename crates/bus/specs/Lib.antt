-- The rules of the bus that need no cache.
pub mod Parity
pub mod Lanes
pub mod Transfer
pub mod Answer
