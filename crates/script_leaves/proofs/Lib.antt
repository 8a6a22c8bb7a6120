-- Why the contracts hold. Crates above cite Laws and Records.
pub mod Laws
pub mod Pushes
pub mod Keys
pub mod Leaves
pub mod Records
