pub mod CentreLaws
pub mod SetLaws
pub mod PlaneLaws
