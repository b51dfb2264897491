-- Text in a lent space: what a reader has to believe.
pub mod Space
pub mod Decimal
