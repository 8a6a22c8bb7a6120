pub mod Rules
pub mod Bounds
pub mod Validity
