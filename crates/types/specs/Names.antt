-- The declared types that a type is made of, with their variants, for the files of this crate. Another crate names them under specs.declared.
pub use Rattle.correctness.specs.declared.Base.{Base}
pub use Rattle.correctness.specs.declared.Base.TheVariants.{B, K, «V», W}
pub use Rattle.correctness.specs.declared.Input.{Input}
pub use Rattle.correctness.specs.declared.Input.TheVariants.{Zero, One, Any, OneNonZero, AnyNonZero}
pub use Rattle.correctness.specs.declared.Correctness.{Correctness}
pub use Rattle.malleability.specs.declared.Dissat.{Dissat}
pub use Rattle.malleability.specs.declared.Dissat.TheVariants.{None, Unique, Unknown}
pub use Rattle.malleability.specs.declared.Malleability.{Malleability}
pub use Rattle.types.specs.declared.«Type».{«Type»}
pub use Rattle.std.specs.declared.cmp.Ordering.{Ordering}
pub use Rattle.std.specs.declared.cmp.Ordering.TheVariants.{Less, Equal, Greater}
