pub mod Spans
pub mod Keys
pub mod Columns
pub mod Theorem
