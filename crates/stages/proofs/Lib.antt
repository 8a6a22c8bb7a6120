-- The laws of stages.
pub mod Stages
