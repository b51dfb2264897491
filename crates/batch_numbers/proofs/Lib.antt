mod PartLaws
mod PartedLaws
mod Underway
