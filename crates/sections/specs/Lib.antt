-- In reading order: pixels and their runs; what a pen does; pixels in words and in planes.
pub mod Kinds
pub mod Pens
pub mod Words
