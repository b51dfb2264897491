-- The laws of the C interface for messages.
pub mod LayoutLaws
pub mod ReceiveLaws
pub mod DivideLaws
