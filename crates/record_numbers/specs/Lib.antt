-- A record as seven numbers.
pub mod Entry
