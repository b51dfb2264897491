-- The tape: records as bytes.
pub mod Field
pub mod Record
pub mod Refused
pub mod Write
pub mod Size
pub mod RoundTrip
pub mod Examples
pub mod Ranges
pub mod Reader
