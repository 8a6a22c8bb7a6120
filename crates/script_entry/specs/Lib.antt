-- For the inner contracts, in reading order.
pub mod Pieces
pub mod Outcomes
-- and keys of 64 bits, worked
pub mod LongKeys
