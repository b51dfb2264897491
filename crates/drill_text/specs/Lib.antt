-- How the code writes the text.
pub mod Writing
