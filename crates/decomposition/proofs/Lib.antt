pub mod BandLaws
pub mod TurnLaws
