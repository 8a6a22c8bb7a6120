-- The words of a node and their candidate, and stores of them.
pub mod Packed
pub mod Stored
-- What nodes stand for, and what growing leaves of it.
pub mod Seen
pub mod Grown
pub mod Appended
-- What casts, pairs and leaves stand for, and what may be offered.
pub mod Offers
pub mod Casts
pub mod Pairs
pub mod Leaves
pub mod Valid
