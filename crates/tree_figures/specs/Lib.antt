-- What a reader of this crate must believe: when every fragment of a tree is locally valid.
pub mod LocallyValid
-- for the inner contracts
pub mod Memory
