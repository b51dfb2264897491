pub mod BoardLaws
pub mod UnitLaws
pub mod MapLaws
