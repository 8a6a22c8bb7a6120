pub mod Writing
pub mod WellFormed
pub mod ReadBack
