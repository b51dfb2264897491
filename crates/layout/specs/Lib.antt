-- The directory as a caller in another language lends it.
pub mod Directory
pub mod Examples
