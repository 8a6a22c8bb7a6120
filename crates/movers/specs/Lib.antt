-- What a reader of this crate must believe, in reading order.
pub mod Promises
pub mod Laws
