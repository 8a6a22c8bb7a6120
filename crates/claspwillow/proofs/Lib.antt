-- Why the entries keep their promises.
pub mod Determined
pub mod Outcomes
pub mod Choosing
-- for the entries above
pub mod CheckLaws
