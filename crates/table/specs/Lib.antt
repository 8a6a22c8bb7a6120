-- What a reader of this crate must believe, in reading order.
pub mod Rows
pub mod Inserted
pub mod NothingBetter
