pub mod Threshold
pub mod Finite
pub mod PackLaws
pub mod MaskLaws
