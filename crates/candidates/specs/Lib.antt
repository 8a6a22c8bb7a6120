pub mod FragmentKinds
pub mod Candidates
pub mod Leaves
pub mod Casts
pub mod Pairs
