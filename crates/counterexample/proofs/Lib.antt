pub mod Bits
pub mod Showing
