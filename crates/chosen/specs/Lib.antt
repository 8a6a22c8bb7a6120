-- What a reader of this crate must believe, in reading order.
pub mod Form
pub mod Chosen
-- for the inner contracts
pub mod Answers
