pub mod Formula
pub mod Sieves
pub mod Claims
pub mod Codes
pub mod Readings
pub mod Falling
