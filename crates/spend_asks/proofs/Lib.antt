-- Why the contracts hold.
pub mod Next
pub mod Telling
pub mod Groups
