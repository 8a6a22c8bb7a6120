pub mod Names
pub mod Arithmetic
pub mod Rules
pub mod Price
pub mod Cost1d
pub mod Probabilities
pub mod Weights
pub mod Figures
