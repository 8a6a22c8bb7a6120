-- Why the contracts hold.
pub mod Turning
pub mod Continuing
pub mod Recursion
