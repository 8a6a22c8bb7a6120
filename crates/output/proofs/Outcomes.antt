-- Any two outcomes that measuring or writing a tree allows are equal. Assumes nothing.
use Rattle.std.specs.Prelude.{Option, Some}
use mathlib.Core.Path.{◌≡◌, refl, sym, ap, ◌∙◌}
use mathlib.Core.List.{List}
use mathlib.Core.Logic.{⊎_elim}
use Prim.Native.Nat.{ℕ, ◌<◌}
use native.Mathlib.Omega.{arith}
use lib.ListN.{length}
use Rattle.trees.specs.Fragment.{Fragment}
use Rattle.trees.specs.Reading.{max_records}
use Rattle.writing.specs.Writing.{size, bytes_of_tree}
use Rattle.output.specs.Answers.{Measured, fits, too_many, Wrote, wrote, too_small}
use Rattle.output.specs.declared.Extent.{Extent}

same : (x y : Extent) → x.records ≡ y.records → x.bytes ≡ y.bytes → Some x ≡ Some y
same x y e f = ap (λ (n : ℕ). Some (record x { records = n })) e ∙ ap (λ (n : ℕ). Some (record { records = y.records; bytes = n })) f

pub one-extent : {t : Fragment} {left : ℕ} {r r' : Option Extent} → Measured t left r → Measured t left r' → r ≡ r'
one-extent (fits {x = x} s b f h) (fits {x = y} s' b' f' h') =
    let bytes : x.bytes ≡ y.bytes = cc in
    let records : x.records ≡ y.records = cc in
    same x y records bytes
one-extent (fits s b f h) (too_many l) = absurd (omega arith)
one-extent (too_many l) (fits s b f h) = absurd (omega arith)
one-extent (too_many l) (too_many l') = refl

pub one-output : {t : Fragment} {out₀ out out' : List ℕ} {r r' : Option ℕ} → Wrote t out₀ out r → Wrote t out₀ out' r' → (r ≡ r') × (out ≡ out')
one-output (wrote s b l is) (wrote s' b' l' is') = (cc, cc)
one-output {t} {out₀} (wrote s b l is) (too_small short is') =
    absurd (⊎_elim (λ (many : max_records < size t). omega arith) (λ (long : length out₀ < length (bytes_of_tree t)). omega arith) short)
one-output {t} {out₀} (too_small short is) (wrote s b l is') =
    absurd (⊎_elim (λ (many : max_records < size t). omega arith) (λ (long : length out₀ < length (bytes_of_tree t)). omega arith) short)
one-output (too_small short is) (too_small short' is') = (refl, is ∙ sym is')
