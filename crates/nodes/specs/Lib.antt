-- What a reader of this crate must believe, in reading order.
pub mod Words
pub mod Views
pub mod Answers
pub mod Offers
pub mod Stored
