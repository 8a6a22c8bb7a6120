-- The extremes by how many of a threshold's children are satisfied, one child at a time. Assumes nothing.
use Rattle.std.specs.Prelude.{None}
use Prim.Native.Nat.{ℕ, zero, suc, ◌+◌, ◌*◌, ◌-◌, ◌≤◌, ◌<◌}
use mathlib.Core.Bool.{Bool, true, false}
use mathlib.Core.List.{List, [], ◌∷◌}
use mathlib.Core.Path.{◌≡◌, refl, sym, ap, ◌∙◌}
use native.Mathlib.Omega.{arith}
use borrow.Author.Tests.{ltb-true, ltb-false}
use lib.Dec.{ltb}
use lib.ListN.{length, get_or, take, drop, replicate, length-drop, get_or-replicate, drop_of_length-le, get_or-eq_default}
use lib.Seq.{length-take-le, drop-cons, get_or-take, get_or-drop}
use Rattle.witness_ways.specs.declared.Both.{Both}
use Rattle.witness_ways.specs.Extremes.{Extremes, just}
use Rattle.witness_rules.specs.Bounds.{Below, none, neither, AllBelow, RowBelow, small}
use Rattle.witness_rules.specs.ByKind.{counts, count_in, one_more_at, Counted}
use Rattle.witness_rules.proofs.Bounds.{looser, below-and, below_or, just-below}

-- ---- a child more, count by count

pub record CountingOn (x : Both) (row out : List Extremes) (j : ℕ) : Type 0 where
  pub long : length out ≡ 17
  pub upto : j ≤ 17
  pub later : 1 ≤ j
  pub each : (m : ℕ) → m < j → count_in out m ≡ one_more_at x row m

-- ---- all children, from the last to the first

-- without children
none-counted : Counted (counts []) (just 0 ∷ replicate 16 None)
unfolding counts
none-counted = record { long = refl; each = each }
  where
    each : (j : ℕ) → j < 17 → count_in (just 0 ∷ replicate 16 None) j ≡ counts [] j
    each zero h = refl
    each (suc j) h = get_or-replicate 16 j None None (omega arith)

-- a child's extremes are small, so those by count are below sixteen times as much
counts-below : (xs : List Both) → AllBelow small xs → (j : ℕ) → Below (length xs * small) (counts xs j)
unfolding counts
counts-below [] h zero = just-below 0 (omega arith)
counts-below [] h (suc j) = none
counts-below (x ∷ xs) h zero = looser (omega arith) (below-and (counts-below xs (λ j l. h (suc j) (omega arith)) zero) (h 0 (omega arith)).dissatisfied)
counts-below (x ∷ xs) h (suc j) =
    let rest : AllBelow small xs = λ j l. h (suc j) (omega arith) in
    let its = h 0 (omega arith) in
    looser (omega arith)
    (below_or (below-and (counts-below xs rest j) its.satisfied) (below-and (counts-below xs rest (suc j)) its.dissatisfied))

-- more cannot be satisfied than there are
counts-over : (xs : List Both) (k : ℕ) → length xs < k → counts xs k ≡ None
unfolding counts
counts-over [] zero h = absurd (omega arith)
counts-over [] (suc k) h = refl
counts-over (x ∷ xs) zero h = absurd (omega arith)
counts-over (x ∷ xs) (suc k) h = rw (counts-over xs k (omega arith), counts-over xs (suc k) (omega arith))

-- a row that says the same, count by count, counts the same child more
same_more : (x : Both) (row : List Extremes) (xs : List Both) → Counted (counts xs) row → (j : ℕ) → j < 17 → one_more_at x row j ≡ counts (x ∷ xs) j
unfolding counts
same_more x row xs r zero h = rw (r.each 0 (omega arith))
same_more x row xs r (suc j) h = rw (r.each j (omega arith), r.each (suc j) h)

counted-at : (xs : List Both) (row : List Extremes) → length xs ≤ 16 → Counted (counts xs) row → (k : ℕ) → count_in row k ≡ counts xs k
counted-at xs row few r k = by-test (ltb k 17) refl
  where
    by-test : (b : Bool) → ltb k 17 ≡ b → count_in row k ≡ counts xs k
    by-test true t = r.each k (ltb-true k 17 t)
    by-test false t =
        let over = ltb-false k 17 t in
        get_or-eq_default row None (omega (arith, r.long)) ∙ sym (counts-over xs k (omega arith))

-- the row, once the children from i on, of the first n, are counted
pub record CountedFrom (n : ℕ) (children : List Both) (row : List Extremes) (i : ℕ) : Type 0 where
  pub is : Counted (counts (drop i (take n children))) row
  pub upto : i ≤ n

module _ (n : ℕ) (children : List Both) (few : n ≤ 16) (long : length children ≡ 16) where
  taken : length (take n children) ≡ n
  taken = length-take-le n children (omega arith)

  -- the children from i on
  abbrev from : ℕ → List Both
  from i = drop i (take n children)

  from-length : (i : ℕ) → length (from i) ≤ 16
  from-length i = omega (arith, length-drop i (take n children), taken)

  from-below : (i : ℕ) → AllBelow small children → AllBelow small (from i)
  from-below i h j l =
      let inside : i + j < n = omega (arith, length-drop i (take n children), taken) in
      let same : get_or (from i) j neither ≡ get_or children (i + j) neither =
      get_or-drop i (take n children) j neither ∙ get_or-take n children (i + j) neither inside in
      rw same (h (i + j) (omega arith))

  pub from-none : CountedFrom n children (just 0 ∷ replicate 16 None) n
  from-none =
      record {
        is =
            rw (drop_of_length-le (take n children) {i = n} (omega (arith, taken))) none-counted;
        upto = omega arith;
      }

  pub from-fits : {row : List Extremes} {i : ℕ} → AllBelow small children → CountedFrom n children row i → RowBelow row
  from-fits {row} {i} h r j l =
      rw (r.is.each j l) (looser (omega (arith, from-length i)) (counts-below (from i) (from-below i h) j))

  pub from_more : {row next : List Extremes} {i : ℕ} → 0 < i → CountedFrom n children row i → Counted (one_more_at (get_or children (i - 1) neither) row) next
      → CountedFrom n children next (i - 1)
  from_more {row} {next} {i} h r c =
      let x = get_or children (i - 1) neither in
      let first : get_or (take n children) (i - 1) neither ≡ x = get_or-take n children (i - 1) neither (omega (arith, r.upto)) in
      let after : suc (i - 1) ≡ i = omega arith in
      let all : from (i - 1) ≡ x ∷ from i =
      drop-cons (take n children) (i - 1) neither (omega (arith, taken, r.upto)) ∙ rw (first, after) in
      record {
        is = record { long = c.long; each = λ j l. c.each j l ∙ same_more x row (from i) r.is j l ∙ ap (λ (xs : List Both). counts xs j) (sym all) };
        upto = omega (arith, r.upto);
      }

  pub from_all : {row : List Extremes} {i : ℕ} → i ≤ 0 → CountedFrom n children row i → (k : ℕ) → count_in row k ≡ counts (take n children) k
  from_all {row} {i} h r k =
      let first : i ≡ 0 = omega arith in
      counted-at (from i) row (from-length i) r.is k ∙ rw first
