-- Lemmas of this crate, in the order of its code.
pub mod Below
pub mod Picking
pub mod Finding
pub mod Putting
pub mod Whole
