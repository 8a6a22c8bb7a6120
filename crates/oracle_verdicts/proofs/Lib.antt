-- Why the verdicts and their counts are right.
pub mod Agreement
pub mod Tallies
