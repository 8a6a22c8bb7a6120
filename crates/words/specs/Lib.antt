pub mod Floats
pub mod Bytes
pub mod Memory
