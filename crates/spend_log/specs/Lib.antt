-- What a reader of this crate must believe, in reading order.
pub mod Readers
pub mod Logs
pub mod Written
-- for the inner contracts
pub mod Places
