-- One report more, counted. Assumes nothing.
use Prim.Native.Nat.{ℕ, suc, ◌+◌, ◌≤◌}
use mathlib.Core.Bool.{Bool, true, false}
use mathlib.Core.List.{List}
use mathlib.Core.Path.{◌≡◌, refl, sym, ap, ◌∙◌}
use native.Mathlib.Numerals.{add-one}
use native.Mathlib.Omega.{arith}
use lib.Dec.{eqb}
use Rattle.spend_tally.specs.Tallies.{verdict_in, one, count_of}

pub none-counted : (reports : List ℕ) (verdict : ℕ) → 0 ≡ count_of reports verdict 0
unfolding count_of
none-counted reports verdict = refl

pub one-counted : (reports : List ℕ) (verdict i : ℕ) {count v more : ℕ} → count ≡ count_of reports verdict i → v ≡ verdict_in reports i
    → more ≡ one (eqb v verdict) → count + more ≡ count_of reports verdict (i + 1)
unfolding count_of
one-counted reports verdict i {count} {v} {more} a b c =
    let same : more ≡ one (eqb (verdict_in reports i) verdict) = c ∙ ap (λ x. one (eqb x verdict)) b in
    rw add-one (ap (λ x. x + more) a ∙ ap (λ x. count_of reports verdict i + x) same)

pub at_most_one : (a b : ℕ) {more : ℕ} → more ≡ one (eqb a b) → more ≤ 1
at_most_one a b e = by-test (eqb a b) e
  where
    by-test : (t : Bool) {more : ℕ} → more ≡ one t → more ≤ 1
    by-test true e = omega arith
    by-test false e = omega arith

pub all-counted : (reports : List ℕ) (verdict i n : ℕ) {count : ℕ} → i ≤ n → n ≤ i → count ≡ count_of reports verdict i → count ≡ count_of reports verdict n
all-counted reports verdict i n a b e =
    let same : i ≡ n = omega arith in
    e ∙ ap (count_of reports verdict) same
