-- What a reader of this crate must believe, in reading order.
pub mod Sizes
pub mod Places
pub mod Typed
pub mod Laws
