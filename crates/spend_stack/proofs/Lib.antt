-- Why the contracts hold.
pub mod Memory
pub mod Stacks
pub mod Laws
pub mod Steps
