-- The type and the height of a fragment, as the tree check finds them: document 02, R-11. The type that False has stands where there is none.
use Rattle.correctness.specs.declared.TypeError.TheVariants as TypeError
use Rattle.correctness.specs.declared.TypeError.{TypeError}
use Rattle.std.specs.Prelude.{Result, Ok, Err}
use Rattle.types.specs.declared.«Type».{«Type»}
use Rattle.types.specs.TypeRules as rule
use Rattle.contexts.specs.declared.Context.{Context}
use Rattle.trees.specs.Fragment.{Fragment}
use Rattle.trees.specs.Typing.{type_of}
use Rattle.trees.specs.Height.{height_of}
use Rattle.trees.specs.declared.Subtree.{Subtree}

abbrev pub type_or : Result «Type» TypeError → «Type»
type_or (Ok t) = t
type_or (Err TypeError.IllTyped) = rule.FALSE

abbrev pub subtree_of : Context → Fragment → Subtree
subtree_of c f = record { ty = type_or (type_of c f); height = height_of f }
