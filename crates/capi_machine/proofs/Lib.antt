pub mod CallLaws
pub mod NewestLaws
pub mod PlaceLaws
pub mod FollowLaws
