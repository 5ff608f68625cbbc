pub mod Dilation
