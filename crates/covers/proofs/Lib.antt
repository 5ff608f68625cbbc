pub mod LentLaws
pub mod ReachLaws
pub mod GrowLaws
pub mod ErodedLaws
