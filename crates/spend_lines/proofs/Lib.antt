-- Why the contracts hold.
pub mod Digits
pub mod Texts
pub mod Blocks
