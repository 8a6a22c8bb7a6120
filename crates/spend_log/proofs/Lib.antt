-- Why the readers of a log are right.
pub mod Passing
pub mod Parts
pub mod Heads
pub mod Counting
pub mod ReadBack
