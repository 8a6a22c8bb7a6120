-- What a user of the entries must believe.
pub mod Promises
pub mod Results
