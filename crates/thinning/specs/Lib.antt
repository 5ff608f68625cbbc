pub mod Hits
pub mod Passes
pub mod Thinned
