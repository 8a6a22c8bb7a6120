-- Why the reading of a line is right.
pub mod Splits
pub mod Pairs
pub mod Cases
