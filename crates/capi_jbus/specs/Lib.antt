-- What crosses between interrupts and a program in another language.
pub mod Interrupt
