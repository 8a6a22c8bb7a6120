-- An index in bytes and in work memory, in reading order.
pub mod Entries
pub mod Memory
pub mod Looking
