-- What the receiver's answers come to.
pub mod ReceiveLaws
