pub mod SpellLaws
pub mod CountLaws
pub mod Examples
