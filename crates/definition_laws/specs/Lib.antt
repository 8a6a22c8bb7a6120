-- What the laws of compile speak of.
pub mod FormedPolicy
pub mod Laws
pub mod Before
pub mod Bodies
pub mod NothingBetter
pub mod Settled
pub mod Believing
pub mod Heights
