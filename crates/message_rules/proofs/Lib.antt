-- The laws of messages.
pub mod ReceiverTests
pub mod SenderTests
pub mod ReceiverLaws
pub mod StateLaws
pub mod SenderLaws
pub mod Operations
pub mod Delivers
pub mod OtherSenders
pub mod AnswerLaws
