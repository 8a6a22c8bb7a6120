-- What a reader of this crate must believe.
pub mod Closed
pub mod Typing
