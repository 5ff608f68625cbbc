pub mod OnwardLaws
pub mod BarLaws
pub mod MaskedLaws
pub mod WindowLaws
pub mod OpenWordLaws
