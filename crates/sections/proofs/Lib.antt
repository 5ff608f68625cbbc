pub mod KindLaws
pub mod PenLaws
pub mod WordLaws
pub mod DenseLaws
pub mod PlaneLaws
