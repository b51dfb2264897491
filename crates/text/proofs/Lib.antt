-- Laws of text in a lent space.
pub mod SpaceLaws
pub mod DecimalLaws
