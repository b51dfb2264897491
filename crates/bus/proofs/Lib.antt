-- Laws of the definitions, shared by the functions' proofs and by those who use the bus.
pub mod ByteLaws
pub mod ParityLaws
pub mod LanesLaws
pub mod TransferLaws
pub mod AnswerLaws
