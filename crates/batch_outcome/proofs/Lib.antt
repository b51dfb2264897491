pub mod RefusedLaws
pub mod GoesOn
