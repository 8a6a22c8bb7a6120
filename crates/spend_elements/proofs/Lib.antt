-- Why the contracts hold.
pub mod Ranges
pub mod Scans
pub mod Reading
pub mod Writing
