-- Laws that the test of the directory rests on.
mod Turns
mod FaultLaws
mod KindLaws
