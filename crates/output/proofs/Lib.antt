-- The laws of this crate.
pub mod Shapes
pub mod Children
pub mod Lengths
pub mod Measuring
pub mod Placing
pub mod Nodes
pub mod Outcomes
