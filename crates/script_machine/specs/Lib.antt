-- What a reader of this crate must believe, in reading order.
pub mod Numbers
pub mod Words
pub mod Machine
pub mod Translation
pub mod Demand3
pub mod OtherBases
pub mod Merged
pub mod WorkedRuns
