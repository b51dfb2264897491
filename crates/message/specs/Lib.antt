-- What the code speaks of, as the rules do.
pub mod Given
