pub mod Equal
pub mod Places
pub mod Keep
pub mod Laws
