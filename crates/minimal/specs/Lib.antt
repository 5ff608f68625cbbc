pub mod Covers
pub mod Moves
pub mod Bands
pub mod Sizes
pub mod Walks
pub mod Minimised
