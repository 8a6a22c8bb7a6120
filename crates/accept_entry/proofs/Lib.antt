pub mod Determined
pub mod Judging
pub mod Promised
