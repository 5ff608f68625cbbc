-- In reading order: symbols split into sizes; points by runs; maps, and the rows of a stream; the reader whole; what the loops follow.
pub mod Splits
pub mod Points
pub mod Maps
pub mod Decoding
pub mod ReadingCases
pub mod Taking
pub mod Seeking
pub mod Nexts
