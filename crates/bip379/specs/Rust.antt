-- The declared types of the `types` crate with their variants, under one name.
pub use Rattle.correctness.specs.declared.Base.{Base}
pub use Rattle.correctness.specs.declared.Base.TheVariants.{B, K, «V», W}
pub use Rattle.correctness.specs.declared.Input.{Input}
pub use Rattle.correctness.specs.declared.Input.TheVariants.{Zero, One, Any, OneNonZero, AnyNonZero}
pub use Rattle.correctness.specs.declared.Correctness.{Correctness}
pub use Rattle.correctness.specs.declared.TypeError.{TypeError}
pub use Rattle.malleability.specs.declared.Dissat.{Dissat}
pub use Rattle.malleability.specs.declared.Dissat.TheVariants.{None, Unique, Unknown}
pub use Rattle.malleability.specs.declared.Malleability.{Malleability}
pub use Rattle.types.specs.declared.«Type».{«Type»}
