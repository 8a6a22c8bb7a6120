-- What the contracts of this crate cite, in reading order.
pub mod Running
pub mod Turns
