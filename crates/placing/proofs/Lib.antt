pub mod RowLaws
pub mod WalkLaws
pub mod PlaneLaws
pub mod SizeLaws
