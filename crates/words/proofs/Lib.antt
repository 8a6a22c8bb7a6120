pub mod Packing
pub mod Stores
pub mod Bytes
pub mod Floats
