-- What a reader of this crate must believe: the entries' promises.
pub mod Index
-- for the inner contracts
pub mod Memory
pub mod Building
pub mod Looking
