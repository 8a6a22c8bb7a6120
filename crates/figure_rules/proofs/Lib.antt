pub mod Ranges
pub mod Making
