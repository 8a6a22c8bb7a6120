-- The fragments of two children agree: both tables computed over every pair of children. Assumes nothing.
use mathlib.Core.Bool.{Bool}
use Rattle.std.specs.Prelude.{Option, Result}
use mathlib.Core.Path.{◌≡◌}
use lib.Dec.{T}
use Rattle.correctness.specs.CorrectnessRules as corr
use Rattle.malleability.specs.MalleabilityRules as mall
use Rattle.types.specs.TypeRules.{typed}
use Rattle.bip379.specs.Rust.{Correctness, TypeError, Malleability, «Type»}
use Rattle.bip379.specs.Correctness.{Correct}
use Rattle.bip379.specs.Correctness as C
use Rattle.bip379.specs.Malleability.{Malleable}
use Rattle.bip379.specs.Malleability as M
use Rattle.bip379.specs.Bip379.{rows, pair_type, Pair, and_v, and_b, or_b, or_c, or_d, or_i}
use Rattle.bip379.specs.Agreement.{correct, malleable, letters, in_letters, pair_rule}
use Rattle.bip379.proofs.Every.{all_correctness, every_correctness, all_malleability, every_malleability}
use Rattle.bip379.proofs.Rows.{same_correct, same_malleable, rows_agree}

abbrev table_c : Pair → Correct → Correct → Option Correct
table_c and_v = C.and_v
table_c and_b = C.and_b
table_c or_b = C.or_b
table_c or_c = C.or_c
table_c or_d = C.or_d
table_c or_i = C.or_i

abbrev rule_c : Pair → Correctness → Correctness → Result Correctness TypeError
rule_c and_v = corr.and_v
rule_c and_b = corr.and_b
rule_c or_b = corr.or_b
rule_c or_c = corr.or_c
rule_c or_d = corr.or_d
rule_c or_i = corr.or_i

abbrev table_m : Pair → Malleable → Malleable → Malleable
table_m and_v = M.and_v
table_m and_b = M.and_b
table_m or_b = M.or_b
table_m or_c = M.or_c
table_m or_d = M.or_d
table_m or_i = M.or_i

abbrev rule_m : Pair → Malleability → Malleability → Malleability
rule_m and_v = mall.and_v
rule_m and_b = mall.and_b
rule_m or_b = mall.or_b
rule_m or_c = mall.or_c
rule_m or_d = mall.or_d
rule_m or_i = mall.or_i

abbrev same_c : Pair → Correctness → Correctness → Bool
same_c F x y = same_correct (table_c F (correct x) (correct y)) (rule_c F x y)

abbrev same_m : Pair → Malleability → Malleability → Bool
same_m F x y = same_malleable (table_m F (malleable x) (malleable y)) (rule_m F x y)

-- the 6,400 pairs of correctness types
correctness-computed : (F : Pair) → T (all_correctness λ x. all_correctness λ y. same_c F x y)
correctness-computed and_v = tt
correctness-computed and_b = tt
correctness-computed or_b = tt
correctness-computed or_c = tt
correctness-computed or_d = tt
correctness-computed or_i = tt

-- the 144 pairs of malleability types
malleability-computed : (F : Pair) → T (all_malleability λ x. all_malleability λ y. same_m F x y)
malleability-computed and_v = tt
malleability-computed and_b = tt
malleability-computed or_b = tt
malleability-computed or_c = tt
malleability-computed or_d = tt
malleability-computed or_i = tt

corrs-agree : (F : Pair) (x y : Correctness) → T (same_c F x y)
corrs-agree F x y =
    every_correctness (λ y. same_c F x y) (every_correctness (λ x. all_correctness λ y. same_c F x y) (correctness-computed F) x) y

malls-agree : (F : Pair) (x y : Malleability) → T (same_m F x y)
malls-agree F x y =
    every_malleability (λ y. same_m F x y) (every_malleability (λ x. all_malleability λ y. same_m F x y) (malleability-computed F) x) y

together : (F : Pair) (x y : «Type»)
    → rows (table_c F (correct x.corr) (correct y.corr)) (table_m F (malleable x.mall) (malleable y.mall))
    ≡ in_letters (typed (rule_c F x.corr y.corr) (rule_m F x.mall y.mall))
together F x y =
    rows_agree (table_c F (correct x.corr) (correct y.corr)) (rule_c F x.corr y.corr)
    (table_m F (malleable x.mall) (malleable y.mall)) (rule_m F x.mall y.mall)
    (corrs-agree F x.corr y.corr) (malls-agree F x.mall y.mall)

pub pairs-agree : (F : Pair) (x y : «Type») → pair_type F (letters x) (letters y) ≡ in_letters (pair_rule F x y)
pairs-agree and_v x y = together and_v x y
pairs-agree and_b x y = together and_b x y
pairs-agree or_b x y = together or_b x y
pairs-agree or_c x y = together or_c x y
pairs-agree or_d x y = together or_d x y
pairs-agree or_i x y = together or_i x y
