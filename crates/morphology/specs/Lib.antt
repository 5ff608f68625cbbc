-- In reading order: lists and points; the sheet, the element, the map; the formula; shortening; hit-or-miss and thinning;
-- answers and refusals; the operations whole; the settled cases.
pub mod Lists
pub mod Point
pub mod Image
pub mod Element
pub mod Labels
pub mod Morphology
pub mod Skeleton
pub mod Minimal
pub mod Thinning
pub mod Answers
pub mod Refusals
pub mod Operations
pub mod Falls
pub mod InTurn
pub mod Extent
pub mod Partial
pub mod Cases
