-- What crosses between messages and a program in another language.
pub mod Layout
pub mod Operation
pub mod Receive
pub mod Divide
