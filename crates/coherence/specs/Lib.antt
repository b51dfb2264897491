-- The cache machine: its rules, in document 01's order, and what demand 3 says of them.
pub mod Bytes
pub mod Settings
pub mod Slots
pub mod Access
pub mod Refusal
pub mod Answer
pub mod Calls
pub mod Peek
pub mod PlainMemory
pub mod Demand3
pub mod Snapshot
pub mod Sentences
pub mod AccessRows
pub mod Examples
