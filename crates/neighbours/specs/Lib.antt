pub mod Neighbours
pub mod Strips
