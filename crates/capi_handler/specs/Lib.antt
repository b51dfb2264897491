-- What crosses between the handler and a program in another language.
pub mod State
pub mod Arbitrate
pub mod Examples
