pub mod CallLaws
pub mod FormatLaws
