-- Messages between boards: operations, the receiver, the sender, and what they promise together.
pub mod Operation
pub mod Receiver
pub mod Sender
pub mod Delivery
