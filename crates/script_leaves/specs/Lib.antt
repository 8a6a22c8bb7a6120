-- What the contracts of this crate say, in reading order.
pub mod Laying
pub mod Lent
pub mod Leaves
