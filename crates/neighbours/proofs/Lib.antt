pub mod NeighbourLaws
pub mod JoinLaws
pub mod StripLaws
