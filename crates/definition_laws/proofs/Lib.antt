-- Laws of the definition of compile, from the bottom up; and the definition case by case, for proofs that keep it shut.
pub mod SamePolicies
pub mod Believing
pub mod Typed
pub mod Heights
pub mod Keys
pub mod Sorting
pub mod Keeping
pub mod Inserting
pub mod Searching
pub mod Reading
pub mod Compiling
pub mod Passing
pub mod Steps
pub mod NothingBetter
pub mod Before
pub mod Bodies
pub mod Settling
