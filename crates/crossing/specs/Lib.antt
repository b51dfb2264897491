-- What the crates for other languages share.
pub mod Capped
pub mod Narrow
