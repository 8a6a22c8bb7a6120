pub mod Names
pub mod TypeRules
pub mod ThresholdSteps
pub mod Subtype
pub mod Mask
pub mod TypeOrder
pub mod Sanity
