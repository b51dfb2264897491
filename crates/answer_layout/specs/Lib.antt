-- A call's answer as a caller in another language lends space for it.
pub mod Answer
pub mod Examples
