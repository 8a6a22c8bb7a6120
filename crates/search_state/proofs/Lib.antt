-- The laws of what is remembered: crates above cite those of `Growing` and `Chains`.
pub mod Growing
pub mod Lookups
pub mod Storing
pub mod Copying
pub mod Chains
