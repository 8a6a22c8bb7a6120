-- What a reader of this crate must believe, in reading order.
pub mod Lines
pub mod Laws
