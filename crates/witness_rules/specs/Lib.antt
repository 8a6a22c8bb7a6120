-- For the contracts of this crate and of the entry, in reading order.
pub mod Bounds
pub mod ByKind
