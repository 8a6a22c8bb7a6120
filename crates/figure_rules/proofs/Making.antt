-- What a record's rule makes of children that have entered is a candidate, one higher. Assumes nothing.
use Prim.Native.Nat.{ℕ, ◌+◌, ◌<◌}
use mathlib.Core.Bool.{Bool, true, false, cond}
use mathlib.Core.List.{List, [], ◌∷◌}
use Rattle.std.specs.Prelude.{Some}
use mathlib.Core.Path.{◌≡◌, refl}
use native.Mathlib.Omega.{arith}
use borrow.Author.Tests.{eqb-true}
use lib.Dec.{eqb}
use lib.ListN.{length, take}
use Rattle.std.proofs.lemmas.List.{get_or_default}
use lib.Seq.{get_or-take, length-take-le}
use Rattle.records.specs.Numbers.{between}
use Rattle.contexts.specs.declared.Context.{Context}
use Rattle.trees.specs.Tree.{Line, ◌is◌, find}
use Rattle.figures.specs.declared.ExtData.{ExtData}
use Rattle.figures.specs.Bounds.{Small, Entered, Candidate}
use Rattle.figures.specs.Rules as ext
use Rattle.figures.proofs.Entering.{entered-candidate, candidate-small, false-entered, true-entered, pk-k-candidate, pk-h-candidate, multi-candidate}
use Rattle.figures.proofs.Entering.{multi-a-candidate, sha256-candidate, hash256-candidate, ripemd160-candidate, hash160-candidate, after-candidate}
use Rattle.figures.proofs.Entering.{older-candidate, alt-candidate, swap-candidate, check-candidate, dupif-candidate, verify-candidate}
use Rattle.figures.proofs.Entering.{nonzero-candidate, zeronotequal-candidate, and-b-candidate, and-v-candidate, or-b-candidate, or-d-candidate}
use Rattle.figures.proofs.Entering.{or-c-candidate, or-i-candidate, and-or-candidate}
use Rattle.thresholds.specs.Threshold.{threshold}
use Rattle.thresholds.proofs.Making.{all-entered, threshold-candidate}
use Rattle.figure_rules.specs.ByKind.{or_else, lock_or_hash, leaf_of, cast_of, pair_of, blank, child, figures_by, Ready}

-- ---- whatever line of a table a kind has

data Each (P : ℕ → ExtData → Type 0) : List (Line ExtData) → Type 0 where
  none : Each P []
  line : {n : ℕ} {x : ExtData} {ls : List (Line ExtData)} → P n x → Each P ls → Each P (n is x ∷ ls)

module _ (P : ExtData → Type 0) (kind : ℕ) where
  found : (d : ExtData) {ls : List (Line ExtData)} → P d → Each (λ n x. kind ≡ n → P x) ls → P (or_else d (find kind ls))
  unfolding find
  found d p none = p
  found d p (line {n} {x} {ls} q qs) = by-test (eqb kind n) refl (found d p qs)
    where
      by-test : (b : Bool) → eqb kind n ≡ b → P (or_else d (find kind ls)) → P (or_else d (cond b (Some x) (find kind ls)))
      by-test true e rest = q (eqb-true kind n e)
      by-test false e rest = rest

-- ---- what stands past the children

pub blank-entered : (h : ℕ) → Entered h blank
blank-entered h = record { within = omega arith; cost = omega arith; low = omega arith }

-- ---- each rule

module _ {h kind number k n : ℕ} {xs : List ExtData} (r : Ready h kind number k n xs) (long : length xs ≡ 16) (c : Context) where
  abbrev Makes : ExtData → Type 0
  Makes x = Candidate (h + 1) x

  entered : (j : ℕ) → j < 16 → Entered h (child xs j)
  entered j l = r.entered j (omega arith)

  leaf-makes : Makes (leaf_of c kind number k n)
  leaf-makes =
      found Makes kind (lock_or_hash kind number)
      (found Makes kind ext.hash160 (hash160-candidate (h + 1))
      (line (λ e. after-candidate (h + 1) number) (line (λ e. older-candidate (h + 1) number) (line (λ e. sha256-candidate (h + 1))
      (line (λ e. hash256-candidate (h + 1)) (line (λ e. ripemd160-candidate (h + 1)) none))))))
      (line (λ e. entered-candidate (false-entered (h + 1))) (line (λ e. entered-candidate (true-entered (h + 1)))
      (line (λ e. pk-k-candidate (h + 1) c) (line (λ e. pk-h-candidate (h + 1) c)
      (line (λ e. let b = r.bounds (omega arith) in multi-candidate (h + 1) k n b.1 b.2)
      (line (λ e. let b = r.bounds (omega arith) in multi-a-candidate (h + 1) k n b.0 b.1 b.2) none))))))

  cast-makes : Makes (cast_of kind (child xs 0))
  cast-makes =
      let x = entered 0 (omega arith) in
      found Makes kind (ext.cast_zeronotequal (child xs 0)) (zeronotequal-candidate x)
      (line (λ e. alt-candidate x) (line (λ e. swap-candidate x) (line (λ e. check-candidate x) (line (λ e. dupif-candidate x)
      (line (λ e. verify-candidate x) (line (λ e. nonzero-candidate x) none))))))

  pair-makes : Makes (pair_of kind (child xs 0) (child xs 1))
  pair-makes =
      let x = entered 0 (omega arith) in
      let y = entered 1 (omega arith) in
      found Makes kind (ext.or_i (child xs 0) (child xs 1)) (or-i-candidate x y)
      (line (λ e. and-b-candidate x y) (line (λ e. and-v-candidate x y) (line (λ e. or-b-candidate x y) (line (λ e. or-d-candidate x y)
      (line (λ e. or-c-candidate x y) none)))))

  thresh-makes : kind ≡ 56 → Makes (threshold k (take n xs))
  thresh-makes e =
      let b = r.bounds (omega arith) in
      let size : length (take n xs) ≡ n = length-take-le n xs (omega (arith, b.2)) in
      threshold-candidate h k (take n xs) (omega (arith, size, b.0, b.1)) (omega (arith, size, b.2))
      (all-entered h (take n xs) (λ i m. rw (get_or-take n xs i _ (omega (arith, size)), get_or_default xs i _ blank (omega (arith, size, b.2, long))) (entered i (omega (arith, size, b.2)))))

  pub makes : Makes (figures_by c kind number k n xs)
  makes = by_tests (between 42 48 kind) (between 49 54 kind) (eqb kind 55) (eqb kind 56) refl
    where
      by_tests : (p q s t : Bool) → eqb kind 56 ≡ t
          → Makes (cond p (cast_of kind (child xs 0)) (cond q (pair_of kind (child xs 0) (child xs 1))
          (cond s (ext.and_or (child xs 0) (child xs 1) (child xs 2)) (cond t (threshold k (take n xs)) (leaf_of c kind number k n)))))
      by_tests true q s t e = cast-makes
      by_tests false true s t e = pair-makes
      by_tests false false true t e = and-or-candidate (entered 0 (omega arith)) (entered 1 (omega arith)) (entered 2 (omega arith))
      by_tests false false false true e = thresh-makes (eqb-true kind 56 e)
      by_tests false false false false e = leaf-makes

  pub makes-small : Small (figures_by c kind number k n xs)
  makes-small = candidate-small makes (omega (arith, r.low))
