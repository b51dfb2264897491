-- What a drill prints, from the bytes of its tape.
pub mod Line
pub mod Drill
pub mod Claims
pub mod Examples
