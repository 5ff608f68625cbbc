pub mod SizeLaws
pub mod MeasureLaws
pub mod StreamLaws
pub mod LastLaws
pub mod WriteLaws
pub mod OutcomeLaws
