-- Why it holds, from the bottom up.
pub mod Counts
pub mod Keeping
pub mod Making
pub mod Searching
pub mod Compiling
