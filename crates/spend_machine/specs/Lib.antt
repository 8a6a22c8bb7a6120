-- What a reader of this crate must believe, in reading order.
pub mod Entries
pub mod Recorded
pub mod Verdicts
pub mod FixedOutcomes
pub mod Laws
-- for the inner contracts
pub mod Playing
