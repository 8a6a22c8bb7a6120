pub mod Words
pub mod Loading
pub mod Steps
pub mod Everywhere
pub mod Filling
