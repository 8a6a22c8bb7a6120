-- What the contracts of this crate cite.
pub mod Elements
pub mod Signed
