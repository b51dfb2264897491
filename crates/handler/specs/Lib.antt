-- The bus handler.
pub mod Handler
pub mod Waiting
pub mod Rule
