-- Laws that several functions' proofs share.
pub mod Sets
pub mod Claims
pub mod OfSlots
