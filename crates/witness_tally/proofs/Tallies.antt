-- The counts and sums, one outcome after the other. Assumes nothing.
use mathlib.Core.List.{List, [], ◌∷◌, ◌++◌}
use mathlib.Core.Path.{◌≡◌, refl, sym, ap}
use Prim.Native.Nat.{ℕ, ◌+◌, ◌≤◌}
use native.Mathlib.Omega.{arith}
use lib.ListN.{length, length-append}
use Rattle.contexts.specs.Lists.{sum, one, count}
use Rattle.witness_tally.specs.declared.Outcome.{Outcome}
use Rattle.witness_tally.specs.declared.Outcome.TheVariants as Outcome
use Rattle.witness_tally.specs.declared.Tally.{Tally}
use Rattle.witness_tally.specs.Tallies.{is_none, is_refused, fewest, most, tally_of, counted, Small, Few, Accounts}

-- ---- the counts account for every outcome

pub accounts : Accounts
unfolding sum
accounts [] = refl
accounts (Outcome.Bytes a b ∷ os) = omega (arith, accounts os)
accounts (Outcome.NoWay ∷ os) = omega (arith, accounts os)
accounts (Outcome.Refused n ∷ os) = omega (arith, accounts os)

-- ---- one outcome more

sum_more : {A : Type 0} (f : A → ℕ) (xs : List A) (x : A) → sum f (xs ++ (x ∷ [])) ≡ sum f xs + f x
unfolding sum
sum_more f [] x = omega arith
sum_more f (y ∷ xs) x = omega (arith, sum_more f xs x)

same-tally : {a b c d e a' b' c' d' e' : ℕ} → a ≡ a' → b ≡ b' → c ≡ c' → d ≡ d' → e ≡ e'
    → ◌≡◌ {A = Tally} (record { inputs = a; none = b; refused = c; smallest = d; largest = e })
    (record { inputs = a'; none = b'; refused = c'; smallest = d'; largest = e' })
same-tally p q r s t = rw (p, q, r, s, t)

pub one_more : (os : List Outcome) (o : Outcome) → counted (tally_of os) o ≡ tally_of (os ++ (o ∷ []))
one_more os o = by_kind o (length-append os (o ∷ [])) (sum_more (λ x. one (is_none x)) os o) (sum_more (λ x. one (is_refused x)) os o) (sum_more fewest os o) (sum_more most os o)
  where
    by_kind : (o : Outcome) {l n r s m : ℕ} → l ≡ length os + 1 → n ≡ count is_none os + one (is_none o) → r ≡ count is_refused os + one (is_refused o)
        → s ≡ sum fewest os + fewest o → m ≡ sum most os + most o
        → counted (tally_of os) o ≡ record { inputs = l; none = n; refused = r; smallest = s; largest = m }
    by_kind (Outcome.Bytes a b) p q t u v = same-tally (sym p) (omega arith) (omega arith) (sym u) (sym v)
    by_kind Outcome.NoWay p q t u v = same-tally (sym p) (sym q) (omega arith) (omega arith) (omega arith)
    by_kind (Outcome.Refused n) p q t u v = same-tally (sym p) (omega arith) (sym t) (omega arith) (omega arith)

pub inputs-more : (t : Tally) (o : Outcome) {t' : Tally} → t' ≡ counted t o → t'.inputs ≡ t.inputs + 1
inputs-more t (Outcome.Bytes a b) e = ap (λ (x : Tally). x.inputs) e
inputs-more t Outcome.NoWay e = ap (λ (x : Tally). x.inputs) e
inputs-more t (Outcome.Refused n) e = ap (λ (x : Tally). x.inputs) e

-- ---- none wraps

pub small_bytes : {o : Outcome} {a b : ℕ} → o ≡ Outcome.Bytes a b → Small o → (a ≤ 2147483648) × (b ≤ 2147483648)
small_bytes {o} {a} {b} e s = let t : Small (Outcome.Bytes a b) = rw (← e) s in (t.fewest, t.most)

pub tally-none : ◌≡◌ {A = Tally} (record { inputs = 0; none = 0; refused = 0; smallest = 0; largest = 0 }) (tally_of [])
unfolding sum
tally-none = refl

pub none-counted : (t : Tally) → t ≡ tally_of [] → t.inputs ≤ 0
none-counted t e = omega (arith, ap (λ (x : Tally). x.inputs) e)

pub few-first : Few (tally_of [])
unfolding sum
few-first = record { none = omega arith; refused = omega arith; smallest = omega arith; largest = omega arith }

pub few-more : (t : Tally) (o : Outcome) → Few t → Small o → Few (counted t o)
few-more t (Outcome.Bytes a b) f s =
    record {
      none = omega (arith, f.none);
      refused = omega (arith, f.refused);
      smallest = omega (arith, f.smallest, s.fewest);
      largest = omega (arith, f.largest, s.most);
    }
few-more t Outcome.NoWay f s =
    record {
      none = omega (arith, f.none);
      refused = omega (arith, f.refused);
      smallest = omega (arith, f.smallest);
      largest = omega (arith, f.largest);
    }
few-more t (Outcome.Refused n) f s =
    record {
      none = omega (arith, f.none);
      refused = omega (arith, f.refused);
      smallest = omega (arith, f.smallest);
      largest = omega (arith, f.largest);
    }
