-- What a reader of this crate must believe, in reading order.
pub mod Tables
pub mod Opcodes
pub mod Encoding
pub mod ScriptOf
pub mod Written
pub mod Decoding
pub mod Lengths
pub mod WorkedScripts
-- for the inner contracts
pub mod Layout
pub mod Entries
