-- Why it holds, from the bottom up.
pub mod Searching
pub mod Making
pub mod Compiling
