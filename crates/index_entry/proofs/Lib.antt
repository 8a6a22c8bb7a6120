pub mod Records
pub mod Filling
pub mod Placing
pub mod Promised
pub mod Determined
pub mod Lookups
