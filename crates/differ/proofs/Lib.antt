-- Why the differences are those of the definition, and why its laws hold.
pub mod Numbering
pub mod Rebuilding
pub mod Equality
pub mod Exchanging
pub mod Places
pub mod Taken
pub mod Sizes
pub mod Determined
-- for the functions
pub mod Sides
pub mod Telling
pub mod Walking
pub mod Halves
pub mod Promised
