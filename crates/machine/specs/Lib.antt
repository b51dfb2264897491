-- What a cold start answers.
pub mod Start
