pub mod Determined
pub mod Promised
pub mod Compiles
