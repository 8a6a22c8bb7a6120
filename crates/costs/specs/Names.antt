-- The declared types of this crate with their variants, for the files of this crate. Another crate names them under specs.declared.
pub use Rattle.costs.specs.declared.SigType.{SigType}
pub use Rattle.costs.specs.declared.SigType.TheVariants.{Ecdsa, Schnorr}
pub use Rattle.costs.specs.declared.Cost.{Cost}
pub use Rattle.costs.specs.declared.Price.{Price}
pub use Rattle.costs.specs.declared.Price.TheVariants.{Finite, Never, NotACost}
pub use Rattle.costs.specs.declared.OrWeights.{OrWeights}
