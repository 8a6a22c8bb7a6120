pub mod Bounds
pub mod Counting
pub mod Ranges
