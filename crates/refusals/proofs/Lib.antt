pub mod SideLaws
pub mod RowLaws
