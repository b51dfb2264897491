-- What the code's numbers of a record are, for the functions that use them.
pub mod NumbersLaws
