pub mod CallLaws
pub mod MaskLaws
pub mod EdgeLaws
pub mod HitRows
pub mod HitLaws
pub mod PassLaws
pub mod ThinTurns
pub mod EndLaws
