pub mod Names
pub mod Letters
pub mod MalleabilityRules
pub mod ThresholdSteps
pub mod Subtype
pub mod Digits
