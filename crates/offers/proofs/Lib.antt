-- Why what is offered to a table is right.
pub mod Ends
pub mod Leaves
pub mod Leaving
pub mod Casts
pub mod Entries
