-- Why the theorems of specs/ hold.
pub mod Merging
pub mod Pushes
pub mod Minimal
pub mod Known
pub mod Decoding
pub mod Opcodes
pub mod Lengths
pub mod Determined
pub mod WorkedScripts
-- the records of a tree
pub mod OwnEntries
pub mod Entries
