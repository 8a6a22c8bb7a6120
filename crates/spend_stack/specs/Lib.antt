-- What the contracts of this crate cite.
pub mod Memory
pub mod Outcomes
pub mod Machines
pub mod Pieces
