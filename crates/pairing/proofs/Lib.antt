-- The laws of pairings.
pub mod Numbered
pub mod Placed
pub mod Turns
pub mod Fitting
