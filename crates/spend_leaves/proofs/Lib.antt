-- Why the contracts hold.
pub mod Ranges
pub mod Laws
pub mod Pieces
pub mod Multis
