-- What a reader of this crate must believe, in reading order.
pub mod Policy
pub mod Forms
pub mod Reading
pub mod Examples
pub mod Array
pub mod Heads
pub mod Answers
