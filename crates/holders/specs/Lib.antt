-- Who holds a block.
pub mod Holders
pub mod Examples
