-- What a reader of this crate must believe, in reading order.
pub mod Fragment
pub mod Typing
pub mod Height
pub mod Reading
pub mod Tree
pub mod TreeCheck
pub mod WorkedCases
pub mod Checked
-- for the inner contracts
pub mod Rules
pub mod WorkMemory
