-- What a reader of this crate must believe, in reading order.
pub mod Elements
pub mod Ways
pub mod Spends
-- for the inner contracts of the entry
pub mod Extremes
