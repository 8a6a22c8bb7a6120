pub mod Inputs
pub mod Digits
