-- In reading order: symbols and bytes; masks and runs; codes; the writer whole; the settled cases; what the loops follow.
pub mod Symbols
pub mod Runs
pub mod Codes
pub mod Coding
pub mod CodingCases
pub mod Writing
