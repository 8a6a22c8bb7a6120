-- The declared types of this crate with their variants, for the files of this crate. Another crate names them under specs.declared.
pub use Rattle.correctness.specs.declared.Base.{Base}
pub use Rattle.correctness.specs.declared.Base.TheVariants.{B, K, «V», W}
pub use Rattle.correctness.specs.declared.Input.{Input}
pub use Rattle.correctness.specs.declared.Input.TheVariants.{Zero, One, Any, OneNonZero, AnyNonZero}
pub use Rattle.correctness.specs.declared.Correctness.{Correctness}
