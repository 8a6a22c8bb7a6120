-- The answers of the Rust, given by the definition.
pub mod AnswersGiven
