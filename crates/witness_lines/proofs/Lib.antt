-- Why the readings and the lines are right.
pub mod Lines
pub mod Blocks
