-- What crosses between the drill and a program in another language.
pub mod Drill
