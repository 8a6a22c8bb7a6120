-- The figures of a fragment from those of its children, and of a record from those of the records before it. Assumes nothing.
use Prim.Native.Nat.{ℕ, suc, ◌+◌, ◌<◌}
use mathlib.Core.Bool.{Bool, true, false}
use mathlib.Core.List.{List, [], ◌∷◌, map}
use Rattle.std.specs.Prelude.{Option}
use mathlib.Core.Path.{◌≡◌, refl, sym, ap, ◌∙◌}
use native.Mathlib.Omega.{arith}
use borrow.Author.Tests.{eqb-true}
use lib.Dec.{eqb}
use lib.ListN.{length, get_or, take, length-map}
use Rattle.records.specs.Payloads as payload
use Rattle.records.specs.Payloads.{Payload, number_of, k_of, count_of, children_of, keys_of}
use Rattle.records.specs.RecordForm.{kind_of}
use Rattle.contexts.specs.declared.Context.{Context}
use Rattle.contexts.specs.Leaves.{After, Older, Sha256, Hash256, Ripemd160, Hash160}
use Rattle.trees.specs.Fragment.{Fragments, end, ◌▹◌, to_list, False, True, PkK, PkH, Lock, Hash}
use Rattle.trees.specs.Fragment.{Alt, Swap, Check, DupIf, Verify, NonZero, ZeroNotEqual}
use Rattle.trees.specs.Fragment.{AndB, AndV, OrB, OrD, OrC, OrI, AndOr, Thresh, Multi, MultiA}
use Rattle.trees.specs.Tree.{find}
use Rattle.walk.specs.TreeRecords.{record_at, fragment_at, TreeRecord}
use Rattle.walk.specs.Heads.{Head, head_of, children_in, head_with}
use Rattle.walk.specs.Folds.{ByChildren}
use Rattle.walk.proofs.FoldLaws.{value-at}
use Rattle.figures.specs.declared.ExtData.{ExtData}
use Rattle.definition_laws.specs.Laws.{figures_of, figures_of_all}
use Rattle.figure_rules.specs.ByKind.{child, figures_by}
use Rattle.tree_figures.specs.Memory.{figures_at, figures_with, figures_here}

module _ (c : Context) where
  abbrev step : Head → List ExtData → ExtData
  step h xs = figures_by c h.kind h.number h.k (length h.keys + length xs) xs

  figures-all : (xs : Fragments) → figures_of_all c xs ≡ map (figures_of c) (to_list xs)
  unfolding figures_of_all to_list
  figures-all end = refl
  figures-all (x ▹ xs) = ap (λ (l : List ExtData). figures_of c x ∷ l) (figures-all xs)

  take_all : (xs : List ExtData) → take (0 + length xs) xs ≡ xs
  take_all xs =
      let z : 0 + length xs ≡ length xs = omega arith in
      rw z (all xs)
    where
      all : (xs : List ExtData) → take (length xs) xs ≡ xs
      all [] = refl
      all (x ∷ xs) = rw (all xs)

  by-children : ByChildren (figures_of c) step
  unfolding figures_of head_of children_in find
  by-children False = refl
  by-children True = refl
  by-children (PkK n) = refl
  by-children (PkH n) = refl
  by-children (Lock After n) = refl
  by-children (Lock Older n) = refl
  by-children (Hash Sha256 h) = refl
  by-children (Hash Hash256 h) = refl
  by-children (Hash Ripemd160 h) = refl
  by-children (Hash Hash160 h) = refl
  by-children (Alt x) = refl
  by-children (Swap x) = refl
  by-children (Check x) = refl
  by-children (DupIf x) = refl
  by-children (Verify x) = refl
  by-children (NonZero x) = refl
  by-children (ZeroNotEqual x) = refl
  by-children (AndB x y) = refl
  by-children (AndV x y) = refl
  by-children (OrB x y) = refl
  by-children (OrD x y) = refl
  by-children (OrC x y) = refl
  by-children (OrI x y) = refl
  by-children (AndOr x y z) = refl
  by-children (Thresh k xs) =
      let whole = take_all (map (figures_of c) (to_list xs)) in
      let all = figures-all xs in
      rw (whole, all)
  by-children (Multi k ks) =
      let n : length ks + 0 ≡ length ks = omega arith in
      rw n
  by-children (MultiA k ks) =
      let n : length ks + 0 ≡ length ks = omega arith in
      rw n

  -- ---- the same from lists that agree

  pub same-figures : (kind number k n : ℕ) (xs ys : List ExtData) → ((j : ℕ) → child xs j ≡ child ys j) → (kind ≡ 56 → take n xs ≡ take n ys)
      → figures_by c kind number k n xs ≡ figures_by c kind number k n ys
  same-figures kind number k n xs ys e t = by_kind (eqb kind 56) refl
    where
      by_kind : (b : Bool) → eqb kind 56 ≡ b → figures_by c kind number k n xs ≡ figures_by c kind number k n ys
      by_kind true h = rw (e 0, e 1, e 2, t (eqb-true kind 56 h))
      by_kind false h = rw (e 0, e 1, e 2, h)

  -- ---- a record

  count-parts : (p : Payload) → length (keys_of p) + length (children_of p) ≡ count_of p
  count-parts payload.nothing = refl
  count-parts (payload.number n) = refl
  count-parts (payload.children cs) = omega arith
  count-parts (payload.weighted l r lw rw) = refl
  count-parts (payload.threshold k cs) = omega arith
  count-parts (payload.keys k ks) = omega arith

  same_map : (g h : ℕ → ExtData) (js : List ℕ) → ((k : ℕ) → k < length js → g (get_or js k 0) ≡ h (get_or js k 0)) → map g js ≡ map h js
  same_map g h [] e = refl
  same_map g h (j ∷ js) e = rw (e 0 (omega arith), same_map g h js (λ k l. e (suc k) (omega arith)))

  pub record-figures : {tree : List ℕ} {i : ℕ} (row : TreeRecord tree i) (work : List ℕ)
      → ((j : ℕ) → j < i → figures_at work j ≡ figures_of c (fragment_at tree j)) → figures_here c (record_at tree i) work ≡ figures_of c (fragment_at tree i)
  record-figures {tree} {i} row work known =
      let p = row.payload in
      let kind = kind_of (record_at tree i) in
      let value : ℕ → ExtData = λ j. figures_of c (fragment_at tree j) in
      let same : map (figures_at work) (children_of p) ≡ map value (children_of p) =
      same_map (figures_at work) value (children_of p) (λ k l. known (get_or (children_of p) k 0) (row.before k l)) in
      let n : count_of p ≡ length (keys_of p) + length (map value (children_of p)) =
      sym (count-parts p) ∙ ap (λ (m : ℕ). length (keys_of p) + m) (sym (length-map (children_of p) value)) in
      ap (λ (o : Option Payload). figures_with c kind o work) row.fits
      ∙ ap (λ (xs : List ExtData). figures_by c kind (number_of p) (k_of p) (count_of p) xs) same
      ∙ ap (λ (m : ℕ). figures_by c kind (number_of p) (k_of p) m (map value (children_of p))) n
      ∙ sym (ap (λ (o : Option Payload). step (head_with kind o) (map value (children_of p))) row.fits)
      ∙ sym (value-at (figures_of c) step by-children row)
