pub mod Sizes
pub mod Insertion
pub mod Sorting
pub mod Folding
pub mod Summing
pub mod Making
