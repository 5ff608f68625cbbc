pub mod PaddingLaws
pub mod HeldLaws
pub mod StepLaws
pub mod CodeLaws
