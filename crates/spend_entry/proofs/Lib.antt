-- Why the contracts hold.
pub mod Telling
pub mod Following
pub mod Judged
pub mod Promised
