pub mod Members
pub mod Rows
pub mod Walking
pub mod OwnCodes
pub mod TreeGathering
pub mod PolicyGathering
