pub mod Measures
pub mod Lines
