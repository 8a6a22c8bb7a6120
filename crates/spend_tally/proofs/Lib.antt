-- Why the counts are right.
pub mod Counts
