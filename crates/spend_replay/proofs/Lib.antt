-- Why the promise determines its outcome, and why entries don't affect one another.
pub mod Determined
pub mod Laws
pub mod OneForm
