-- What the tape and the machine both speak of.
pub mod Command
pub mod Flag
pub mod Refusal
