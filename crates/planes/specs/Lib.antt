pub mod Morphed
pub mod Begun
