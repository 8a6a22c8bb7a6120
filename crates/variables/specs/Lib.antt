-- What a reader of this crate must believe: the variables of policies and trees.
pub mod Variables
-- for the inner contracts
pub mod Gathering
