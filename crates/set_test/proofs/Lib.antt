-- Laws that the test of the sets rests on, and the turns of loops over slots.
pub mod Turns
pub mod SetLaws
