-- What is computed is what is asked: specs/Extremes.antt. Assumes nothing.
use Rattle.std.specs.Prelude.{None, Some}
use Prim.Native.Nat.{ℕ, zero, suc}
use mathlib.Core.List.{[], ◌∷◌}
use mathlib.Core.Logic.{inl, inr}
use mathlib.Core.Path.{◌≡◌, refl}
use native.Mathlib.Omega.{arith}
use lib.ListN.{length}
use Rattle.contexts.specs.declared.Context.{Context}
use Rattle.contexts.specs.Lists.{sum}
use Rattle.trees.specs.Fragment.{Fragment, Fragments, end, ◌▹◌, False, True, PkK, PkH, Lock, Hash}
use Rattle.trees.specs.Fragment.{Alt, Swap, Check, DupIf, Verify, NonZero, ZeroNotEqual}
use Rattle.trees.specs.Fragment.{AndB, AndV, OrB, OrD, OrC, OrI, AndOr, Thresh, Multi, MultiA}
use Rattle.witness_ways.specs.Elements.{Witness, empty, one}
use Rattle.witness_ways.specs.Ways.{Satisfies, Dissatisfies, Exactly, no-child, sat-child, dissat-child}
use Rattle.witness_ways.specs.Spends.{Within, Spends, none, some}
use Rattle.witness_ways.specs.Extremes.{Extremes, just, ◌and◌, sat, dissat, no_child, one_more, by_count, extremes, Spans, no_way, spans, ExtremesMet, found_in, smallest_in, largest_in}
use Rattle.witness_ways.proofs.Spans.{Joined, joined, Only, only, map-spans, only-spans, and-spans, or-spans}
use Rattle.witness_ways.proofs.Keys.{empties-weigh, picked-spans, placed-spans}
use Rattle.witness_ways.proofs.Columns.{nowhere, either, sat_row, sat_row-from, sat_row-to, dissat_row, dissat_row-from, dissat_row-to}

module _ (c : Context) where
  -- what the two columns have, the ways have
  by-columns : (f : Fragment) → Spans c (sat_row f) (sat (extremes c f)) → Spans c (dissat_row f) (dissat (extremes c f)) → ExtremesMet c f
  by-columns f s d = record { satisfied = map-spans s (sat_row-to f) sat_row-from; dissatisfied = map-spans d (dissat_row-to f) dissat_row-from }

  empty-way : Spans c nowhere None
  empty-way = no_way (λ w p. p)

  nothing-at-all : Spans c (Only []) (just 0)
  unfolding sum
  nothing-at-all = only-spans [] refl

  zero-element : Spans c (Only (empty ∷ [])) (just 1)
  unfolding sum
  zero-element = only-spans (empty ∷ []) refl

  one-element : Spans c (Only (one ∷ [])) (just 2)
  unfolding sum
  one-element = only-spans (one ∷ []) refl

  -- ---- so many of a threshold's children

  none_yet : (k : ℕ) → Spans c (Exactly k end) (no_child k)
  none_yet zero = map-spans nothing-at-all to from
    where
      to : (w : Witness) → Only [] w → Exactly 0 end w
      to w only = no-child

      from : (w : Witness) → Exactly 0 end w → Only [] w
      from w no-child = only
  none_yet (suc k) = no_way (λ w p. elim p [ ])

  one-dissatisfied : (x : Fragment) (xs : Fragments) {e f : Extremes} → Spans c (Exactly 0 xs) e → Spans c (Dissatisfies x) f
      → Spans c (Exactly 0 (x ▹ xs)) (e and f)
  one-dissatisfied x xs s d = map-spans (and-spans s d) to from
    where
      to : (w : Witness) → Joined (Exactly 0 xs) (Dissatisfies x) w → Exactly 0 (x ▹ xs) w
      to w (joined p q) = dissat-child q p

      from : (w : Witness) → Exactly 0 (x ▹ xs) w → Joined (Exactly 0 xs) (Dissatisfies x) w
      from w (dissat-child q p) = joined p q

  one-child : (k : ℕ) (x : Fragment) (xs : Fragments) → ((j : ℕ) → Spans c (Exactly j xs) (by_count c xs j)) → ExtremesMet c x
      → Spans c (Exactly k (x ▹ xs)) (one_more (extremes c x) (by_count c xs) k)
  one-child zero x xs rest m = one-dissatisfied x xs (rest zero) m.dissatisfied
  one-child (suc k) x xs rest m =
      map-spans (or-spans (and-spans (rest k) m.satisfied) (and-spans (rest (suc k)) m.dissatisfied)) to from
    where
      ways : Witness → Type 0
      ways = either (Joined (Exactly k xs) (Satisfies x)) (Joined (Exactly (suc k) xs) (Dissatisfies x))

      to : (w : Witness) → ways w → Exactly (suc k) (x ▹ xs) w
      to w (inl (joined p q)) = sat-child q p
      to w (inr (joined p q)) = dissat-child q p

      from : (w : Witness) → Exactly (suc k) (x ▹ xs) w → ways w
      from w (sat-child q p) = inl (joined p q)
      from w (dissat-child q p) = inr (joined p q)

  -- ---- every fragment

  mutual
    unfolding extremes by_count sum

    pub extremes-met : (f : Fragment) → ExtremesMet c f
    extremes-met False = by-columns False empty-way nothing-at-all
    extremes-met True = by-columns True nothing-at-all empty-way
    extremes-met (PkK n) = by-columns (PkK n) (only-spans _ (omega arith)) zero-element
    extremes-met (PkH n) = by-columns (PkH n) (only-spans _ (omega arith)) (only-spans _ (omega arith))
    extremes-met (Lock kind n) = by-columns (Lock kind n) nothing-at-all empty-way
    extremes-met (Hash kind n) = by-columns (Hash kind n) (only-spans _ refl) empty-way
    extremes-met (Alt x) = let m = extremes-met x in by-columns (Alt x) m.satisfied m.dissatisfied
    extremes-met (Swap x) = let m = extremes-met x in by-columns (Swap x) m.satisfied m.dissatisfied
    extremes-met (Check x) = let m = extremes-met x in by-columns (Check x) m.satisfied m.dissatisfied
    extremes-met (DupIf x) = by-columns (DupIf x) (and-spans (extremes-met x).satisfied one-element) zero-element
    extremes-met (Verify x) = by-columns (Verify x) (extremes-met x).satisfied empty-way
    extremes-met (NonZero x) = by-columns (NonZero x) (extremes-met x).satisfied zero-element
    extremes-met (ZeroNotEqual x) = let m = extremes-met x in by-columns (ZeroNotEqual x) m.satisfied m.dissatisfied
    extremes-met (AndB x y) =
        let m = extremes-met x in
        let n = extremes-met y in
        by-columns (AndB x y) (and-spans n.satisfied m.satisfied) (and-spans n.dissatisfied m.dissatisfied)
    extremes-met (AndV x y) =
        let m = extremes-met x in
        let n = extremes-met y in
        by-columns (AndV x y) (and-spans n.satisfied m.satisfied) empty-way
    extremes-met (OrB x z) =
        let m = extremes-met x in
        let n = extremes-met z in
        by-columns (OrB x z) (or-spans (and-spans n.dissatisfied m.satisfied) (and-spans n.satisfied m.dissatisfied))
        (and-spans n.dissatisfied m.dissatisfied)
    extremes-met (OrD x z) =
        let m = extremes-met x in
        let n = extremes-met z in
        by-columns (OrD x z) (or-spans m.satisfied (and-spans n.satisfied m.dissatisfied)) (and-spans n.dissatisfied m.dissatisfied)
    extremes-met (OrC x z) =
        let m = extremes-met x in
        let n = extremes-met z in
        by-columns (OrC x z) (or-spans m.satisfied (and-spans n.satisfied m.dissatisfied)) empty-way
    extremes-met (OrI x z) =
        let m = extremes-met x in
        let n = extremes-met z in
        by-columns (OrI x z) (or-spans (and-spans m.satisfied one-element) (and-spans n.satisfied zero-element))
        (or-spans (and-spans m.dissatisfied one-element) (and-spans n.dissatisfied zero-element))
    extremes-met (AndOr x y z) =
        let m = extremes-met x in
        let n = extremes-met z in
        by-columns (AndOr x y z) (or-spans (and-spans (extremes-met y).satisfied m.satisfied) (and-spans n.satisfied m.dissatisfied))
        (and-spans n.dissatisfied m.dissatisfied)
    extremes-met (Thresh k xs) = by-columns (Thresh k xs) (counts-met xs k) (counts-met xs 0)
    extremes-met (Multi k keys) =
        by-columns (Multi k keys) (and-spans zero-element (picked-spans c k keys)) (only-spans _ (omega (arith, empties-weigh c (suc k))))
    extremes-met (MultiA k keys) = by-columns (MultiA k keys) (placed-spans c k keys) (only-spans _ (empties-weigh c (length keys)))

    pub counts-met : (xs : Fragments) (k : ℕ) → Spans c (Exactly k xs) (by_count c xs k)
    counts-met end k = none_yet k
    counts-met (x ▹ xs) k = one-child k x xs (counts-met xs) (extremes-met x)

  -- ---- what is asked of a tree

  spans-spends : (f : Fragment) (e : Extremes) → Spans c (Satisfies f) e → Spends c f (found_in e) (smallest_in e) (largest_in e)
  spans-spends f None (no_way n) = none n
  spans-spends f (Some x) (spans w) = some w

  pub spends-computed : (f : Fragment) → Spends c f (found_in (sat (extremes c f))) (smallest_in (sat (extremes c f))) (largest_in (sat (extremes c f)))
  spends-computed f = spans-spends f (sat (extremes c f)) (extremes-met f).satisfied

  -- a tree has one such outcome
  within-once : {way : Witness → Type 0} {a a' b b' : ℕ} → Within c way a b → Within c way a' b' → (a ≡ a') × (b ≡ b')
  within-once p q =
      let x = p.fewest in
      let y = q.fewest in
      let u = p.most in
      let v = q.most in (
        omega (arith, x.weighs, y.weighs, q.from x.witness x.is, p.from y.witness y.is),
        omega (arith, u.weighs, v.weighs, q.to u.witness u.is, p.to v.witness v.is),
      )

  pub spends-once : (f : Fragment) {n n' a a' b b' : ℕ} → Spends c f n a b → Spends c f n' a' b' → (n ≡ n') × (a ≡ a') × (b ≡ b')
  spends-once f (none p) (none q) = (refl, refl, refl)
  spends-once f (none p) (some q) = absurd (p q.fewest.witness q.fewest.is)
  spends-once f (some p) (none q) = absurd (q p.fewest.witness p.fewest.is)
  spends-once f (some p) (some q) = let e = within-once p q in (refl, e.0, e.1)
