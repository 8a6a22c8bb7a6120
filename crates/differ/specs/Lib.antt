-- What a reader of this crate must believe, in reading order.
pub mod Numbered
pub mod Differences
pub mod Laws
pub mod Differ
pub mod WorkedCases
-- for the inner contracts
pub mod Records
pub mod Telling
pub mod Checks
