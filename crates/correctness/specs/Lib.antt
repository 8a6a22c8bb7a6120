pub mod Names
pub mod Letters
pub mod CorrectnessRules
pub mod ThresholdSteps
pub mod Subtype
pub mod Digits
