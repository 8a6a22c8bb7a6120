-- What was made leaves a table as it is, case by case. Assumes nothing.
use Rattle.candidates.specs.declared.NotMade.{NotMade}
use Rattle.std.specs.Prelude.{Option, Result, Ok, Err}
use mathlib.Core.Path.{◌≡◌, sym, ◌∙◌, ap}
use mathlib.Core.Bool.{Bool, true, false}
use mathlib.Core.List.{List}
use Prim.Native.Nat.{ℕ}
use lib.Ieee.{Float}
use Rattle.candidates.specs.declared.Candidate.{Candidate}
use Rattle.definition.specs.Tables.{probs}
use Rattle.table.specs.Rows.{priced_as, turns_away}
use Rattle.offers.specs.Offering.{alone, leaves_all}

module _ (m : List ℕ) (sat : Float) (dissat : Option Float) (settled : Bool) (es : List ℕ) {x : Result Candidate NotMade} where
  as-made : {b : Bool} {y : Result Candidate NotMade} → x ≡ y → b ≡ leaves_all m (probs sat dissat) settled y es → b ≡ leaves_all m (probs sat dissat) settled x es
  as-made is b = b ∙ sym (ap (λ (x : Result Candidate NotMade). leaves_all m (probs sat dissat) settled x es) is)

  module _ {y : Candidate} (is : x ≡ Ok y) {a : Bool} (said : a ≡ alone dissat settled) where
    pub leaves-turned : a ≡ true → {b : Bool} → b ≡ turns_away m (probs sat dissat) (priced_as (probs sat dissat) y) es
        → b ≡ leaves_all m (probs sat dissat) settled x es
    leaves-turned t b = as-made is (b ∙ sym (rw (sym said ∙ t)))

    pub leaves-accompanied : a ≡ false → false ≡ leaves_all m (probs sat dissat) settled x es
    leaves-accompanied f = as-made is (sym (rw (sym said ∙ f)))

  pub leaves-passed : {e : NotMade} → e ≡ NotMade.PassedOver → x ≡ Err e → true ≡ leaves_all m (probs sat dissat) settled x es
  leaves-passed passed is = as-made is (sym (ap (λ (e : NotMade). leaves_all m (probs sat dissat) settled (Err e) es) passed))

  pub leaves-missing : {e : NotMade} → e ≡ NotMade.Missing → x ≡ Err e → false ≡ leaves_all m (probs sat dissat) settled x es
  leaves-missing missing is = as-made is (sym (ap (λ (e : NotMade). leaves_all m (probs sat dissat) settled (Err e) es) missing))
