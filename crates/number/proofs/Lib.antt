pub mod Examples
pub mod AnswerLaws
pub mod GroupLaws
pub mod StandsLaws
pub mod ReaderLaws
pub mod NumberLaws
pub mod RefusalLaws
