-- Why the functions of this crate meet their contracts: the loops over plain lists, what one entry is compared by, lists of node numbers against
-- what they stand for, what later nodes leave of a table, and an offer case by case.
pub mod Loops
pub mod Prices
pub mod Bridges
pub mod Kept
pub mod Offering
pub mod NothingBetter
