pub mod ColumnLaws
pub mod EdgeLaws
