pub mod Kids
pub mod Kept
pub mod KeptThreshold
pub mod SubtypeLaws
