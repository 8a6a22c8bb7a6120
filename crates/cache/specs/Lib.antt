-- What a reader of this crate must believe, in reading order.
pub mod Slots
pub mod Lookup
pub mod Answers
pub mod Words
