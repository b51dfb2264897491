-- What crosses between the tape and a program in another language.
pub mod Calls
pub mod Examples
