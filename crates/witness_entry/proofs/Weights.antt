-- No sum wraps: the extremes of a fragment are at most its weight, each record of a tree adds at most 1,291 to that of the records up to it,
-- and there are at most 4,096. Assumes nothing.
use Prim.Native.Nat.{ℕ, zero, suc, ◌+◌, ◌*◌, ◌≤◌, ◌<◌}
use mathlib.Core.Bool.{Bool, true, false}
use mathlib.Core.List.{List}
use Rattle.std.specs.Prelude.{Option, Some}
use mathlib.Core.Path.{◌≡◌, refl, ap, ◌∙◌}
use native.Mathlib.Omega.{arith}
use borrow.Author.Tests.{leb-true, leb-false}
use lib.Dec.{leb}
use lib.ListN.{length}
use Rattle.records.specs.Payloads.{Payload, nothing, number, children, weighted, threshold, keys, k_of, count_of, keys_of}
use Rattle.records.specs.RecordForm.{kind_of}
use Rattle.records.specs.Answers.{parts_of}
use Rattle.records.proofs.Arities.{counts}
use Rattle.contexts.specs.declared.Context.{Context}
use Rattle.contexts.specs.declared.Context.TheVariants.{Segwitv0, Tap}
use Rattle.trees.specs.Fragment.{Fragment, Fragments, end, ◌▹◌, to_list, False, True, PkK, PkH, Lock, Hash}
use Rattle.trees.specs.Fragment.{Alt, Swap, Check, DupIf, Verify, NonZero, ZeroNotEqual}
use Rattle.trees.specs.Fragment.{AndB, AndV, OrB, OrD, OrC, OrI, AndOr, Thresh, Multi, MultiA}
use Rattle.walk.specs.TreeRecords.{record_at, fragment_at, TreeRecord, TreeRecords}
use Rattle.walk.specs.Heads.{Head, head_of, children_in, head_with}
use Rattle.walk.specs.Folds.{every, over_records, Gathers, OwnAndChildren}
use Rattle.walk.proofs.Laws.{row_told}
use Rattle.walk.proofs.KindLaws.{no_payload, number-payload, one-payload, two-payload, three-payload, threshold-bounds}
use Rattle.walk.proofs.HeadLaws.{head_at}
use Rattle.walk.proofs.FoldLaws.{part_of}
use Rattle.witness_ways.specs.Elements.{signature_bytes, key_bytes}
use Rattle.witness_ways.specs.Extremes.{by_count, extremes}
use Rattle.witness_rules.specs.Bounds.{Below, none, BothBelow}
use Rattle.witness_rules.proofs.Bounds.{looser, below-and, below_or, just-below, below-some, signature-few, key-few}

-- ---- the weight of a fragment: what its own record can add, and its children's

abbrev own_of : Head → ℕ
own_of h = 107 + (73 * h.k + length h.keys)

abbrev own : Fragment → ℕ
own f = own_of (head_of f)

unfoldable mutual
  weight : Fragment → ℕ
  weight False = own False + 0
  weight True = own True + 0
  weight (PkK n) = own (PkK n) + 0
  weight (PkH n) = own (PkH n) + 0
  weight (Lock kind n) = own (Lock kind n) + 0
  weight (Hash kind h) = own (Hash kind h) + 0
  weight (Alt x) = own (Alt x) + (weight x + 0)
  weight (Swap x) = own (Swap x) + (weight x + 0)
  weight (Check x) = own (Check x) + (weight x + 0)
  weight (DupIf x) = own (DupIf x) + (weight x + 0)
  weight (Verify x) = own (Verify x) + (weight x + 0)
  weight (NonZero x) = own (NonZero x) + (weight x + 0)
  weight (ZeroNotEqual x) = own (ZeroNotEqual x) + (weight x + 0)
  weight (AndB x y) = own (AndB x y) + (weight x + (weight y + 0))
  weight (AndV x y) = own (AndV x y) + (weight x + (weight y + 0))
  weight (OrB x y) = own (OrB x y) + (weight x + (weight y + 0))
  weight (OrD x y) = own (OrD x y) + (weight x + (weight y + 0))
  weight (OrC x y) = own (OrC x y) + (weight x + (weight y + 0))
  weight (OrI x y) = own (OrI x y) + (weight x + (weight y + 0))
  weight (AndOr x y z) = own (AndOr x y z) + (weight x + (weight y + (weight z + 0)))
  weight (Thresh k xs) = own (Thresh k xs) + weights xs
  weight (Multi k ks) = own (Multi k ks) + 0
  weight (MultiA k ks) = own (MultiA k ks) + 0

  weights : Fragments → ℕ
  weights end = 0
  weights (x ▹ xs) = weight x + weights xs

gathers : Gathers ◌+◌ 0
gathers = record { right-unit = λ x. omega arith; assoc = λ x y z. omega arith; comm = λ x y. omega arith }

weights-every : (xs : Fragments) → weights xs ≡ every ◌+◌ 0 weight (to_list xs)
unfolding weights every to_list
weights-every end = refl
weights-every (x ▹ xs) = rw (weights-every xs)

splits : OwnAndChildren ◌+◌ 0 weight own
unfolding weight every children_in
splits False = refl
splits True = refl
splits (PkK n) = refl
splits (PkH n) = refl
splits (Lock kind n) = refl
splits (Hash kind h) = refl
splits (Alt x) = refl
splits (Swap x) = refl
splits (Check x) = refl
splits (DupIf x) = refl
splits (Verify x) = refl
splits (NonZero x) = refl
splits (ZeroNotEqual x) = refl
splits (AndB x y) = refl
splits (AndV x y) = refl
splits (OrB x y) = refl
splits (OrD x y) = refl
splits (OrC x y) = refl
splits (OrI x y) = refl
splits (AndOr x y z) = refl
splits (Thresh k xs) = rw (weights-every xs)
splits (Multi k ks) = refl
splits (MultiA k ks) = refl

-- ---- extremes are at most the weight

signatures : (c : Context) (k : ℕ) → k * signature_bytes c ≤ 73 * k
signatures Segwitv0 k = omega arith
signatures Tap k = omega arith

module _ (c : Context) where
  mutual
    unfolding extremes by_count weight weights head_of

    below : (f : Fragment) → BothBelow (weight f) (extremes c f)
    below False = record { satisfied = none; dissatisfied = just-below 0 (omega arith) }
    below True = record { satisfied = just-below 0 (omega arith); dissatisfied = none }
    below (PkK n) = record { satisfied = just-below (signature_bytes c) (omega (arith, signature-few c)); dissatisfied = just-below 1 (omega arith) }
    below (PkH n) =
        record {
          satisfied = just-below (signature_bytes c + key_bytes c) (omega (arith, signature-few c, key-few c));
          dissatisfied = just-below (1 + key_bytes c) (omega (arith, key-few c));
        }
    below (Lock kind n) = record { satisfied = just-below 0 (omega arith); dissatisfied = none }
    below (Hash kind h) = record { satisfied = just-below 33 (omega arith); dissatisfied = none }
    below (Alt x) = let b = below x in record { satisfied = looser (omega arith) b.satisfied; dissatisfied = looser (omega arith) b.dissatisfied }
    below (Swap x) = let b = below x in record { satisfied = looser (omega arith) b.satisfied; dissatisfied = looser (omega arith) b.dissatisfied }
    below (Check x) = let b = below x in record { satisfied = looser (omega arith) b.satisfied; dissatisfied = looser (omega arith) b.dissatisfied }
    below (DupIf x) =
        record {
          satisfied = looser (omega arith) (below-and (below x).satisfied (just-below 2 {bound = 2} (omega arith)));
          dissatisfied = just-below 1 (omega arith);
        }
    below (Verify x) = record { satisfied = looser (omega arith) (below x).satisfied; dissatisfied = none }
    below (NonZero x) = record { satisfied = looser (omega arith) (below x).satisfied; dissatisfied = just-below 1 (omega arith) }
    below (ZeroNotEqual x) =
        let b = below x in
        record { satisfied = looser (omega arith) b.satisfied; dissatisfied = looser (omega arith) b.dissatisfied }
    below (AndB x y) =
        let a = below x in
        let b = below y in
        record {
          satisfied = looser (omega arith) (below-and b.satisfied a.satisfied);
          dissatisfied = looser (omega arith) (below-and b.dissatisfied a.dissatisfied);
        }
    below (AndV x y) = record { satisfied = looser (omega arith) (below-and (below y).satisfied (below x).satisfied); dissatisfied = none }
    below (OrB x y) =
        let a = below x in
        let b = below y in
        record {
          satisfied =
              below_or (looser (omega arith) (below-and b.dissatisfied a.satisfied))
              (looser (omega arith) (below-and b.satisfied a.dissatisfied));
          dissatisfied = looser (omega arith) (below-and b.dissatisfied a.dissatisfied);
        }
    below (OrD x y) =
        let a = below x in
        let b = below y in
        record {
          satisfied = below_or (looser (omega arith) a.satisfied) (looser (omega arith) (below-and b.satisfied a.dissatisfied));
          dissatisfied = looser (omega arith) (below-and b.dissatisfied a.dissatisfied);
        }
    below (OrC x y) =
        let a = below x in
        record {
          satisfied = below_or (looser (omega arith) a.satisfied) (looser (omega arith) (below-and (below y).satisfied a.dissatisfied));
          dissatisfied = none;
        }
    below (OrI x y) =
        let a = below x in
        let b = below y in
        record {
          satisfied =
              below_or (looser (omega arith) (below-and a.satisfied (just-below 2 {bound = 2} (omega arith))))
              (looser (omega arith) (below-and b.satisfied (just-below 1 {bound = 1} (omega arith))));
          dissatisfied =
              below_or (looser (omega arith) (below-and a.dissatisfied (just-below 2 {bound = 2} (omega arith))))
              (looser (omega arith) (below-and b.dissatisfied (just-below 1 {bound = 1} (omega arith))));
        }
    below (AndOr x y z) =
        let a = below x in
        let d = below z in
        record {
          satisfied =
              below_or (looser (omega arith) (below-and (below y).satisfied a.satisfied))
              (looser (omega arith) (below-and d.satisfied a.dissatisfied));
          dissatisfied = looser (omega arith) (below-and d.dissatisfied a.dissatisfied);
        }
    below (Thresh k xs) = record { satisfied = looser (omega arith) (below-count xs k); dissatisfied = looser (omega arith) (below-count xs 0) }
    below (Multi k ks) =
        record {
          satisfied =
              looser (omega (arith, signatures c k))
              (below-and (just-below 1 {bound = 1} (omega arith)) (below-some k (length ks) {bytes = k * signature_bytes c} {bound = k * signature_bytes c} (omega arith)));
          dissatisfied = just-below (1 + k) (omega arith);
        }
    below (MultiA k ks) =
        record { satisfied = below-some k (length ks) (omega (arith, signatures c k)); dissatisfied = just-below (length ks) (omega arith) }

    below-count : (xs : Fragments) (k : ℕ) → Below (weights xs) (by_count c xs k)
    below-count end zero = just-below 0 (omega arith)
    below-count end (suc k) = none
    below-count (x ▹ xs) zero = looser (omega arith) (below-and (below-count xs zero) (below x).dissatisfied)
    below-count (x ▹ xs) (suc k) =
        below_or (looser (omega arith) (below-and (below-count xs k) (below x).satisfied))
        (looser (omega arith) (below-and (below-count xs (suc k)) (below x).dissatisfied))

-- ---- what a record of a tree adds

-- few keys, and k is no more than they are or than the children
few-keys : (p : Payload) → count_of p ≤ 16 → length (keys_of p) ≤ 16
few-keys nothing h = omega arith
few-keys (number n) h = omega arith
few-keys (children cs) h = omega arith
few-keys (weighted l r lw rw) h = omega arith
few-keys (threshold k cs) h = omega arith
few-keys (keys k ks) h = h

module _ {tree : List ℕ} {i : ℕ} (row : TreeRecord tree i) where
  abbrev kind : ℕ
  kind = kind_of (record_at tree i)

  k_as : (q : Payload) → row.payload ≡ q → k_of q ≡ 0 → k_of row.payload ≤ 16
  k_as q e z = omega (arith, ap k_of e, z)

  few-k : k_of row.payload ≤ 16
  few-k = to-33 (leb kind 33) refl
    where
      from-56 : 56 ≤ kind → k_of row.payload ≤ 16
      from-56 l =
          let b = threshold-bounds (row_told row) l in
          let same = ap (λ (o : Option Payload). (parts_of o).k) row.fits in
          omega (arith, b.1, b.2, same)

      to-55 : (b : Bool) → leb kind 55 ≡ b → 55 ≤ kind → k_of row.payload ≤ 16
      to-55 true t l = k_as _ (three-payload (row_told row) (omega (arith, leb-true kind 55 t))) refl
      to-55 false t l = from-56 (omega (arith, leb-false kind 55 t))

      to-54 : (b : Bool) → leb kind 54 ≡ b → 49 ≤ kind → k_of row.payload ≤ 16
      to-54 true t l = k_as _ (two-payload (row_told row) l (leb-true kind 54 t)) refl
      to-54 false t l = to-55 (leb kind 55) refl (omega (arith, leb-false kind 54 t))

      to-48 : (b : Bool) → leb kind 48 ≡ b → 42 ≤ kind → k_of row.payload ≤ 16
      to-48 true t l = k_as _ (one-payload (row_told row) l (leb-true kind 48 t)) refl
      to-48 false t l = to-54 (leb kind 54) refl (omega (arith, leb-false kind 48 t))

      to-41 : (b : Bool) → leb kind 41 ≡ b → 34 ≤ kind → k_of row.payload ≤ 16
      to-41 true t l = k_as _ (number-payload (row_told row) l (leb-true kind 41 t)) refl
      to-41 false t l = to-48 (leb kind 48) refl (omega (arith, leb-false kind 41 t))

      to-33 : (b : Bool) → leb kind 33 ≡ b → k_of row.payload ≤ 16
      to-33 true t = k_as _ (no_payload (row_told row) (leb-true kind 33 t)) refl
      to-33 false t = to-41 (leb kind 41) refl (omega (arith, leb-false kind 33 t))

  own-few : own (fragment_at tree i) ≤ 1291
  own-few =
      let p = row.payload in
      let head : head_of (fragment_at tree i) ≡ head_with kind (Some p) =
      head_at row ∙ ap (head_with kind) row.fits in
      let is : own (fragment_at tree i) ≡ 107 + (73 * k_of p + length (keys_of p)) = ap own_of head in
      omega (arith, is, few-k, few-keys p (counts (record_at tree i) p row.fits).few)

-- ---- all records

module _ (c : Context) {tree : List ℕ} {f : Fragment} (r : TreeRecords tree f) where
  over-few : (n : ℕ) → n ≤ r.count → over_records ◌+◌ 0 own tree n ≤ n * 1291
  unfolding over_records
  over-few zero h = omega arith
  over-few (suc n) h = omega (arith, over-few n (omega arith), own-few (r.row n (omega arith)))

  -- what a record's word has room for
  pub extremes-small : (i : ℕ) → i < r.count → BothBelow 2147483648 (extremes c (fragment_at tree i))
  extremes-small i h =
      let part = part_of ◌+◌ 0 gathers weight own splits r i h in
      let few : weight (fragment_at tree i) ≤ 2147483648 = omega (arith, part.1, over-few (suc i) h, r.few) in
      let b = below c (fragment_at tree i) in
      record { satisfied = looser few b.satisfied; dissatisfied = looser few b.dissatisfied }
