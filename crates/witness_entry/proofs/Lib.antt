pub mod Steps
pub mod Weights
pub mod Memory
pub mod Filling
pub mod Promised
pub mod Determined
pub mod FewBytes
