-- The declared types of this crate with their variants, for the files of this crate. Another crate names them under specs.declared.
pub use Rattle.malleability.specs.declared.Dissat.{Dissat}
pub use Rattle.malleability.specs.declared.Dissat.TheVariants.{None, Unique, Unknown}
pub use Rattle.malleability.specs.declared.Malleability.{Malleability}
