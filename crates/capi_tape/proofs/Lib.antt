pub mod GivenLaws
pub mod Examples
