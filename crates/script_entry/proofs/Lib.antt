-- Why the script entry keeps its promise.
pub mod Pieces
pub mod ByKind
pub mod Nodes
pub mod Laying
pub mod Entries
pub mod Scanning
pub mod Runs
pub mod Promised
pub mod LongKeys
