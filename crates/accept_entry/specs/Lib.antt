-- What a reader of this crate must believe: the entry's promise.
pub mod Accept
-- for the inner contracts
pub mod Verdicts
