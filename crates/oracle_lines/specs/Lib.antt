-- What a reader of the lines must believe.
pub mod Lines
pub mod Reads
