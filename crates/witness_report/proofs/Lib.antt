-- Why what is reported is right.
pub mod Outcomes
pub mod Lists
