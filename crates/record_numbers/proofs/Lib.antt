pub mod SevenLaws
pub mod BackLaws
pub mod NamesLaws
pub mod ForthLaws
pub mod NumberedLaws
