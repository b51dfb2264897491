-- What crosses between the bus and a program in another language.
pub mod Bus
pub mod Class
pub mod Examples
