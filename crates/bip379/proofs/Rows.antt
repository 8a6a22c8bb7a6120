-- The two tables put together: where each agrees with the port's, so do the types. Assumes nothing.
use mathlib.Core.Bool.{Bool, true, false}
use Rattle.std.specs.Prelude.{Option, None, Some, Result, Ok, Err}
use mathlib.Core.Path.{◌≡◌, refl}
use lib.Dec.{T}
use Rattle.types.specs.TypeRules.{typed}
use Rattle.bip379.specs.Rust.{Correctness, TypeError, Malleability}
use Rattle.bip379.specs.Correctness.{Correct}
use Rattle.bip379.specs.Malleability.{Malleable}
use Rattle.bip379.specs.Bip379.{rows}
use Rattle.bip379.specs.Agreement.{correct, malleable, in_letters}
use Rattle.bip379.proofs.Equal.{eq_correct, correct-equal, eq_malleable, malleable-equal}

-- both refuse, or both give the same letters
abbrev pub same_correct : Option Correct → Result Correctness TypeError → Bool
same_correct (Some X) (Ok x) = eq_correct X (correct x)
same_correct (Some X) (Err e) = false
same_correct None (Ok x) = false
same_correct None (Err e) = true

abbrev pub same_malleable : Malleable → Malleability → Bool
same_malleable X x = eq_malleable X (malleable x)

pub rows_agree : (X : Option Correct) (x : Result Correctness TypeError) (Y : Malleable) (y : Malleability) → T (same_correct X x) → T (same_malleable Y y)
    → rows X Y ≡ in_letters (typed x y)
rows_agree (Some X) (Ok x) Y y h k =
    λ i. Some (record { corr = correct-equal X (correct x) h i; mall = malleable-equal Y (malleable y) k i })
rows_agree (Some X) (Err e) Y y h k = absurd h
rows_agree None (Ok x) Y y h k = absurd h
rows_agree None (Err e) Y y h k = refl
