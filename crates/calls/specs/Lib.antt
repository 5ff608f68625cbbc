pub mod Replies
pub mod Called
pub mod Format
