-- What a reader of this crate must believe: the entry's promise.
pub mod Witness
-- for the inner contracts
pub mod Memory
pub mod Records
