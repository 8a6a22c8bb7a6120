-- The extremes of a record's fragment are what its kind makes of those of its children. Assumes nothing.
use Prim.Native.Nat.{ℕ, zero, suc, ◌+◌, ◌<◌}
use mathlib.Core.Bool.{Bool, true, false}
use mathlib.Core.List.{List, [], ◌∷◌, map}
use Rattle.std.specs.Prelude.{Option}
use mathlib.Core.Path.{◌≡◌, refl, sym, ap, ◌∙◌}
use native.Mathlib.Omega.{arith}
use borrow.Author.Tests.{eqb-true}
use lib.Dec.{eqb}
use lib.ListN.{length, get_or, take, length-map}
use Rattle.records.specs.Payloads.{Payload, nothing, number, children, weighted, threshold, keys, k_of, count_of, keys_of, children_of}
use Rattle.records.specs.RecordForm.{kind_of}
use Rattle.contexts.specs.declared.Context.{Context}
use Rattle.contexts.specs.Leaves.{After, Older, Sha256, Hash256, Ripemd160, Hash160}
use Rattle.trees.specs.Fragment.{Fragments, end, ◌▹◌, to_list, False, True, PkK, PkH, Lock, Hash}
use Rattle.trees.specs.Fragment.{Alt, Swap, Check, DupIf, Verify, NonZero, ZeroNotEqual}
use Rattle.trees.specs.Fragment.{AndB, AndV, OrB, OrD, OrC, OrI, AndOr, Thresh, Multi, MultiA}
use Rattle.trees.specs.Tree.{find}
use Rattle.walk.specs.TreeRecords.{record_at, fragment_at, TreeRecord}
use Rattle.walk.specs.Heads.{Head, head_of, children_in, head_with}
use Rattle.walk.specs.Folds.{ByChildren}
use Rattle.walk.proofs.FoldLaws.{value-at}
use Rattle.witness_ways.specs.declared.Both.{Both}
use Rattle.witness_ways.specs.Extremes.{by_count, extremes}
use Rattle.witness_rules.specs.ByKind.{counts, child, ways_of}
use Rattle.witness_entry.specs.Memory.{both_in}
use Rattle.witness_entry.specs.Records.{ways_with, ways_in}

module _ (c : Context) where
  -- ---- by the children, fragment by fragment

  abbrev step : Head → List Both → Both
  step h xs = ways_of c h.kind h.k (length h.keys + length xs) xs

  counts_same : (xs : Fragments) (k : ℕ) → by_count c xs k ≡ counts (map (extremes c) (to_list xs)) k
  unfolding by_count counts to_list
  counts_same end k = refl
  counts_same (x ▹ xs) zero = rw (counts_same xs zero)
  counts_same (x ▹ xs) (suc k) = rw (counts_same xs k, counts_same xs (suc k))

  take_all : (xs : List Both) → take (0 + length xs) xs ≡ xs
  take_all xs =
      let z : 0 + length xs ≡ length xs = omega arith in
      rw z (all xs)
    where
      all : (xs : List Both) → take (length xs) xs ≡ xs
      all [] = refl
      all (x ∷ xs) = rw (all xs)

  by-children : ByChildren (extremes c) step
  unfolding extremes head_of children_in find
  by-children False = refl
  by-children True = refl
  by-children (PkK n) = refl
  by-children (PkH n) = refl
  by-children (Lock After n) = refl
  by-children (Lock Older n) = refl
  by-children (Hash Sha256 h) = refl
  by-children (Hash Hash256 h) = refl
  by-children (Hash Ripemd160 h) = refl
  by-children (Hash Hash160 h) = refl
  by-children (Alt x) = refl
  by-children (Swap x) = refl
  by-children (Check x) = refl
  by-children (DupIf x) = refl
  by-children (Verify x) = refl
  by-children (NonZero x) = refl
  by-children (ZeroNotEqual x) = refl
  by-children (AndB x y) = refl
  by-children (AndV x y) = refl
  by-children (OrB x y) = refl
  by-children (OrD x y) = refl
  by-children (OrC x y) = refl
  by-children (OrI x y) = refl
  by-children (AndOr x y z) = refl
  by-children (Thresh k xs) =
      let all = take_all (map (extremes c) (to_list xs)) in
      let some-k = counts_same xs k in
      let some-0 = counts_same xs 0 in
      rw (all, some-k, some-0)
  by-children (Multi k ks) =
      let n : length ks + 0 ≡ length ks = omega arith in
      rw n
  by-children (MultiA k ks) =
      let n : length ks + 0 ≡ length ks = omega arith in
      rw n

  -- ---- the same from lists that agree

  pub same-ways : (kind k n : ℕ) (xs ys : List Both) → ((j : ℕ) → child xs j ≡ child ys j) → (kind ≡ 56 → take n xs ≡ take n ys)
      → ways_of c kind k n xs ≡ ways_of c kind k n ys
  same-ways kind k n xs ys e t = by_kind (eqb kind 56) refl
    where
      by_kind : (b : Bool) → eqb kind 56 ≡ b → ways_of c kind k n xs ≡ ways_of c kind k n ys
      by_kind true h = rw (e 0, e 1, e 2, t (eqb-true kind 56 h))
      by_kind false h = rw (e 0, e 1, e 2, h)

  -- ---- a record

  count-parts : (p : Payload) → length (keys_of p) + length (children_of p) ≡ count_of p
  count-parts nothing = refl
  count-parts (number n) = refl
  count-parts (children cs) = omega arith
  count-parts (weighted l r lw rw) = refl
  count-parts (threshold k cs) = omega arith
  count-parts (keys k ks) = omega arith

  same_map : (g h : ℕ → Both) (js : List ℕ) → ((k : ℕ) → k < length js → g (get_or js k 0) ≡ h (get_or js k 0)) → map g js ≡ map h js
  same_map g h [] e = refl
  same_map g h (j ∷ js) e = rw (e 0 (omega arith), same_map g h js (λ k l. e (suc k) (omega arith)))

  pub record-ways : {tree : List ℕ} {i : ℕ} (row : TreeRecord tree i) (work : List ℕ)
      → ((j : ℕ) → j < i → both_in work j ≡ extremes c (fragment_at tree j)) → ways_in c (record_at tree i) work ≡ extremes c (fragment_at tree i)
  record-ways {tree} {i} row work known =
      let p = row.payload in
      let kind = kind_of (record_at tree i) in
      let value : ℕ → Both = λ j. extremes c (fragment_at tree j) in
      let same : map (both_in work) (children_of p) ≡ map value (children_of p) =
      same_map (both_in work) value (children_of p) (λ k l. known (get_or (children_of p) k 0) (row.before k l)) in
      let n : count_of p ≡ length (keys_of p) + length (map value (children_of p)) =
      sym (count-parts p) ∙ ap (λ (m : ℕ). length (keys_of p) + m) (sym (length-map (children_of p) value)) in
      ap (λ (o : Option Payload). ways_with c kind o work) row.fits
      ∙ ap (λ (xs : List Both). ways_of c kind (k_of p) (count_of p) xs) same
      ∙ ap (λ (m : ℕ). ways_of c kind (k_of p) m (map value (children_of p))) n
      ∙ sym (ap (λ (o : Option Payload). step (head_with kind o) (map value (children_of p))) row.fits)
      ∙ sym (value-at (extremes c) step by-children row)
