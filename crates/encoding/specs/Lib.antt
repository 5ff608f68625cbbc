pub mod Sizes
pub mod Encoded
