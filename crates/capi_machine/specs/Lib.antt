-- What crosses between the machine and a program in another language.
pub mod Call
pub mod Place
pub mod Follow
