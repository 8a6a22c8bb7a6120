-- What a reader of this crate must believe, in reading order.
pub mod Candidates
pub mod Tables
pub mod SamePolicy
pub mod Refusals
pub mod Insertion
pub mod Search
pub mod Compile
pub mod AnswersOfTheRust
