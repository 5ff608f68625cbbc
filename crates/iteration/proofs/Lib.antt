pub mod StepLaws
pub mod BandLaws
pub mod OpenLaws
