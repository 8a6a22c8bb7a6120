-- The search over any way of inserting, and what the test of height changes.
pub mod AnyInsertion
pub mod AsBefore
