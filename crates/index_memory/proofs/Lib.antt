-- Why the index in work memory is read, written and compared as it is said.
pub mod Words
pub mod IndexBytes
pub mod Lookups
