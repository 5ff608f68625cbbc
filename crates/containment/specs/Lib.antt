pub mod Wild
