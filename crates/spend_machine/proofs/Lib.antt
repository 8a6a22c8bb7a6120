-- Why the theorems of specs/ hold.
pub mod FixedOutcomes
pub mod Laws
pub mod Playing
