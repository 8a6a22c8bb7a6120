pub mod Parents
pub mod Sizes
pub mod Records
pub mod Weights
pub mod Stands
pub mod Typed
pub mod Bytes
pub mod Theorem
