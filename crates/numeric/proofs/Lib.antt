-- Their laws.
pub mod Cases
pub mod RangeLaws
pub mod BitsLaws
