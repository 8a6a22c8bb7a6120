-- What a reader of this crate must believe, in reading order.
pub mod Records
pub mod Answers
pub mod Inside
