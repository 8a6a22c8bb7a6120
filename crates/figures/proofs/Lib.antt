pub mod Few
pub mod Within
pub mod Entering
