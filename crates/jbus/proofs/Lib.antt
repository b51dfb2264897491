-- Laws of the definitions.
pub mod DeviceLaws
pub mod InterruptLaws
pub mod RoundTrip
pub mod Example
