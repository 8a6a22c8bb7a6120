-- What is known of the extremes of some ways carries over to their sums, their unions and their images. Assumes nothing.
use Prim.Native.Nat.{ℕ, ◌+◌, ◌≤◌, min, max}
use mathlib.Core.List.{[], ◌∷◌, ◌++◌}
use mathlib.Core.Logic.{◌⊎◌, inl, inr}
use mathlib.Core.Path.{◌≡◌, refl, ◌∙◌}
use mathlib.Core.Bool.{Bool, true, false}
use native.Mathlib.Omega.{arith}
use borrow.Author.Tests.{leb-true, leb-false}
use lib.Dec.{leb}
use Rattle.contexts.specs.declared.Context.{Context}
use Rattle.contexts.specs.Lists.{sum}
use Rattle.witness_ways.specs.Elements.{Witness, bytes_of}
use Rattle.witness_ways.specs.Spends.{Met}
use Rattle.witness_ways.specs.Extremes.{Extremes, just, ◌and◌, ◌or◌, Spans, no_way, spans}

pub bytes-append : (c : Context) (w v : Witness) → bytes_of c (w ++ v) ≡ bytes_of c w + bytes_of c v
unfolding sum
bytes-append c [] v = omega arith
bytes-append c (x ∷ w) v = omega (arith, bytes-append c w v)

-- a witness of the second on top of one of the first
pub data Joined (P Q : Witness → Type 0) : Witness → Type 0 where
  joined : {v w : Witness} → P v → Q w → Joined P Q (v ++ w)

-- one witness alone
pub data Only (w : Witness) : Witness → Type 0 where
  only : Only w w

module _ {c : Context} where
  pub map-spans : {P R : Witness → Type 0} {e : Extremes} → Spans c P e
      → ((w : Witness) → P w → R w) → ((w : Witness) → R w → P w) → Spans c R e
  map-spans (no_way n) to from = no_way (λ w r. n w (from w r))
  map-spans (spans p) to from =
      spans (record {
        fewest = record { witness = p.fewest.witness; is = to p.fewest.witness p.fewest.is; weighs = p.fewest.weighs };
        most = record { witness = p.most.witness; is = to p.most.witness p.most.is; weighs = p.most.weighs };
        from = λ w r. p.from w (from w r);
        to = λ w r. p.to w (from w r);
      })

  pub only-spans : (w : Witness) {n : ℕ} → bytes_of c w ≡ n → Spans c (Only w) (just n)
  only-spans w {n} e =
      spans (record {
        fewest = record { witness = w; is = only; weighs = e };
        most = record { witness = w; is = only; weighs = e };
        from = λ v o. omega (arith, same v o, e);
        to = λ v o. omega (arith, same v o, e);
      })
    where
      same : (v : Witness) → Only w v → bytes_of c v ≡ bytes_of c w
      same v only = refl

  pub and-spans : {P Q : Witness → Type 0} {x y : Extremes} → Spans c P x → Spans c Q y → Spans c (Joined P Q) (x and y)
  and-spans {P} {Q} (no_way n) q = no_way none
    where
      none : (w : Witness) → Joined P Q w → ⊥
      none w (joined {v} p q) = n v p
  and-spans {P} {Q} (spans p) (no_way n) = no_way none
    where
      none : (w : Witness) → Joined P Q w → ⊥
      none w (joined {w = u} p q) = n u q
  and-spans {P} {Q} (spans {x = x₁} p) (spans {x = x₂} q) =
      spans (record { fewest = both p.fewest q.fewest; most = both p.most q.most; from = from; to = to })
    where
      both : {a b : ℕ} → Met c P a → Met c Q b → Met c (Joined P Q) (a + b)
      both p q =
          record {
            witness = p.witness ++ q.witness;
            is = joined p.is q.is;
            weighs = omega (arith, bytes-append c p.witness q.witness, p.weighs, q.weighs);
          }

      from : (w : Witness) → Joined P Q w → x₁.fewest + x₂.fewest ≤ bytes_of c w
      from w (joined {v} {w = u} x y) = omega (arith, bytes-append c v u, p.from v x, q.from u y)

      to : (w : Witness) → Joined P Q w → bytes_of c w ≤ x₁.most + x₂.most
      to w (joined {v} {w = u} x y) = omega (arith, bytes-append c v u, p.to v x, q.to u y)

  pub or-spans : {P Q : Witness → Type 0} {x y : Extremes} → Spans c P x → Spans c Q y → Spans c (λ w. P w ⊎ Q w) (x or y)
  or-spans {P} {Q} (no_way n) q = map-spans q (λ w r. inr r) right
    where
      right : (w : Witness) → P w ⊎ Q w → Q w
      right w (inl p) = absurd (n w p)
      right w (inr q) = q
  or-spans {P} {Q} (spans p) (no_way n) = map-spans (spans p) (λ w r. inl r) left
    where
      left : (w : Witness) → P w ⊎ Q w → P w
      left w (inl p) = p
      left w (inr q) = absurd (n w q)
  or-spans {P} {Q} (spans {x = x₁} p) (spans {x = x₂} q) =
      spans (record { fewest = fewest (leb x₁.fewest x₂.fewest) refl; most = most (leb x₁.most x₂.most) refl; from = from; to = to })
    where
      by_left : {n m : ℕ} → n ≡ m → Met c P n → Met c (λ w. P w ⊎ Q w) m
      by_left e p = record { witness = p.witness; is = inl p.is; weighs = p.weighs ∙ e }

      by_right : {n m : ℕ} → n ≡ m → Met c Q n → Met c (λ w. P w ⊎ Q w) m
      by_right e q = record { witness = q.witness; is = inr q.is; weighs = q.weighs ∙ e }

      fewest : (b : Bool) → leb x₁.fewest x₂.fewest ≡ b → Met c (λ w. P w ⊎ Q w) (min x₁.fewest x₂.fewest)
      fewest true t = by_left (omega (arith, leb-true x₁.fewest x₂.fewest t)) p.fewest
      fewest false t = by_right (omega (arith, leb-false x₁.fewest x₂.fewest t)) q.fewest

      most : (b : Bool) → leb x₁.most x₂.most ≡ b → Met c (λ w. P w ⊎ Q w) (max x₁.most x₂.most)
      most true t = by_right (omega (arith, leb-true x₁.most x₂.most t)) q.most
      most false t = by_left (omega (arith, leb-false x₁.most x₂.most t)) p.most

      from : (w : Witness) → P w ⊎ Q w → min x₁.fewest x₂.fewest ≤ bytes_of c w
      from w (inl x) = omega (arith, p.from w x)
      from w (inr y) = omega (arith, q.from w y)

      to : (w : Witness) → P w ⊎ Q w → bytes_of c w ≤ max x₁.most x₂.most
      to w (inl x) = omega (arith, p.to w x)
      to w (inr y) = omega (arith, q.to w y)
