-- What the contracts and the laws of this crate say, in reading order.
pub mod TreeRecords
pub mod Nodes
pub mod Heads
pub mod Folds
