-- Why the counts and sums are right.
pub mod Tallies
