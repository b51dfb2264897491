-- A tape read whole.
pub mod Reading
pub mod Claims
