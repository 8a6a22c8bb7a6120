-- What the contracts of this crate cite, in reading order.
pub mod Places
pub mod Results
