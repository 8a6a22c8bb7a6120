pub mod Rust
pub mod Correctness
pub mod Malleability
pub mod Bip379
pub mod Agreement
