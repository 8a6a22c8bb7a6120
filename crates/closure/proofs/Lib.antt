-- Why the closure of casts is right.
pub mod Waiting
pub mod Extending
pub mod Typing
pub mod Offering
pub mod Casting
pub mod Closing
