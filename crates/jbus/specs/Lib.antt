-- Interrupts on J-Bus: what an agent stands for, the address cycle, and what reading and writing it promise.
pub mod Device
pub mod Interrupt
pub mod RoundTrip
pub mod Example
