-- How many groups and bytes numbers take.
pub mod GroupCount
pub mod Examples
