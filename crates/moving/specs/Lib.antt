-- What a reader of this crate must believe, in reading order.
pub mod Moving
pub mod WorkedCases
pub mod Laws
-- for the inner contracts
pub mod Answers
