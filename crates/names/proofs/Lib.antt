pub mod Spaces
pub mod Tables
