pub mod Leaves
pub mod Bools
pub mod Lists
