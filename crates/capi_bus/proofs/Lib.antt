pub mod ClassLaws
pub mod Examples
