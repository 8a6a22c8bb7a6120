pub mod InARow
pub mod Unique
