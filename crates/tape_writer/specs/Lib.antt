-- How the code holds the numbers of a record.
pub mod Numbers
