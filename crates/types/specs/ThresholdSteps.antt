-- The steps of the loops of `threshold` in types/correctness.rs and types/malleability.rs together, one child after another. TypeRules says
-- what a threshold's type is; proofs/Threshold.antt shows that the two agree.
use Rattle.correctness.specs.declared.TypeError.{TypeError}
use Rattle.std.specs.Prelude.{List, [], ◌∷◌, ℕ, Result}
use Rattle.correctness.specs.ThresholdSteps.{corr_first, corr_next, corr_result}
use Rattle.malleability.specs.ThresholdSteps.{mall_first, mall_next, mall_result}
use Rattle.types.specs.Names.{«Type»}
use Rattle.types.specs.declared.TypeSoFar.{TypeSoFar}
use Rattle.types.specs.TypeRules.{typed}

abbrev pub type_first : «Type» → TypeSoFar
type_first t = record { corr = corr_first t.corr; mall = mall_first t.mall }

abbrev pub type_next : TypeSoFar → «Type» → TypeSoFar
type_next s t = record { corr = corr_next s.corr t.corr; mall = mall_next s.mall t.mall }

abbrev pub type_result : TypeSoFar → ℕ → ℕ → Result «Type» TypeError
type_result s n others = typed (corr_result s.corr) (mall_result s.mall n others)

unfoldable pub after : TypeSoFar → List «Type» → TypeSoFar
after s [] = s
after s (t ∷ ts) = after (type_next s t) ts
