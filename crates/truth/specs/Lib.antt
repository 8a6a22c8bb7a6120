-- For the contracts, in reading order.
pub mod Words
pub mod Gates
pub mod Alike
