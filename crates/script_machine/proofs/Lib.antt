-- Why the theorems of specs/ hold.
pub mod Nested
pub mod Meaning
pub mod Outcome
pub mod Round
pub mod Sizes
pub mod Sound
pub mod Leaves
pub mod Parents
pub mod Threshold
pub mod Every
pub mod Demand3
pub mod OtherBases
pub mod Merged
pub mod WorkedRuns
