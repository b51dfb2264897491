pub mod LockLaws
pub mod StateLaws
pub mod ArbitrateLaws
pub mod Examples
