-- Why nothing changed, from the bottom up.
pub mod Alike
pub mod Inserting
pub mod Searching
pub mod Compiling
