-- What a reader of this crate must believe, in reading order.
pub mod Meaning
pub mod CompileMeans
