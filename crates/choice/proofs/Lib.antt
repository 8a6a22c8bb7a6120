-- Lemmas of this crate, from the bottom up.
pub mod Below
pub mod Choosing
pub mod Arranging
pub mod Keys
pub mod Filling
pub mod Threshes
