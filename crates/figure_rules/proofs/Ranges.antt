-- Which rule a kind has, a range of kinds at a time. Assumes nothing.
use Prim.Native.Nat.{ℕ, ◌≤◌, ◌<◌}
use mathlib.Core.List.{List}
use mathlib.Core.Logic.{◌⊎◌, inl, inr}
use mathlib.Core.Path.{◌≡◌}
use native.Mathlib.Omega.{arith}
use borrow.Author.Tests.{le-leb, lt-leb, ne_eqb}
use lib.ListN.{length, take, get_or}
use lib.Seq.{get_or-take, length-take-le}
use Rattle.std.proofs.lemmas.List.{get_or_default}
use Rattle.contexts.specs.declared.Context.{Context}
use Rattle.figures.specs.declared.ExtData.{ExtData}
use Rattle.figures.specs.Bounds.{Small}
use Rattle.figures.specs.Rules.{and_or}
use Rattle.figures.proofs.Entering.{entered-small}
use Rattle.thresholds.specs.Threshold.{threshold, Children}
use Rattle.thresholds.proofs.Making.{all-entered, entered-children}
use Rattle.figure_rules.specs.ByKind.{leaf_of, cast_of, pair_of, blank, child, figures_by, Ready}

module _ (c : Context) (kind number k n : ℕ) (xs : List ExtData) where
  pub of-cast : 42 ≤ kind → kind < 49 → cast_of kind (child xs 0) ≡ figures_by c kind number k n xs
  of-cast l h = simp (le-leb 42 kind l, le-leb kind 48 (omega arith))

  pub of_pair : 49 ≤ kind → kind < 55 → pair_of kind (child xs 0) (child xs 1) ≡ figures_by c kind number k n xs
  of_pair l h = simp (lt-leb kind 48 (omega arith), le-leb 42 kind (omega arith), le-leb 49 kind l, le-leb kind 54 (omega arith))

  pub of-and-or : kind ≡ 55 → and_or (child xs 0) (child xs 1) (child xs 2) ≡ figures_by c kind number k n xs
  of-and-or e = simp e

  pub of-thresh : kind ≡ 56 → threshold k (take n xs) ≡ figures_by c kind number k n xs
  of-thresh e = simp e

  below : kind < 42 → leaf_of c kind number k n ≡ figures_by c kind number k n xs
  below h = simp (lt-leb 42 kind h, lt-leb 49 kind (omega arith), ne_eqb kind 55 (omega arith), ne_eqb kind 56 (omega arith))

  above : 55 ≤ kind → (kind ≡ 55 → ⊥) → (kind ≡ 56 → ⊥) → leaf_of c kind number k n ≡ figures_by c kind number k n xs
  above h p q =
      simp (
        le-leb 42 kind (omega arith),
        lt-leb kind 48 (omega arith),
        le-leb 49 kind (omega arith),
        lt-leb kind 54 (omega arith),
        ne_eqb kind 55 p,
        ne_eqb kind 56 q,
      )

  pub of-leaf : (kind < 42) ⊎ (55 ≤ kind) → (kind ≡ 55 → ⊥) → (kind ≡ 56 → ⊥) → leaf_of c kind number k n ≡ figures_by c kind number k n xs
  of-leaf (inl h) p q = below h
  of-leaf (inr h) p q = above h p q

module _ {h kind number k n : ℕ} {xs : List ExtData} (r : Ready h kind number k n xs) where
  pub small : (d : ExtData) (j : ℕ) → j < length xs → Small (get_or xs j d)
  small d j l = rw (get_or_default xs j d blank l) (entered-small (r.entered j l) (omega (arith, r.low)))

  pub children : n ≤ length xs → Children (take n xs)
  children l =
      let long : length (take n xs) ≡ n = length-take-le n xs l in
      entered-children h (take n xs) (omega (arith, r.low))
      (all-entered h (take n xs) (λ i m. rw (get_or-take n xs i _ (omega (arith, long)), get_or_default xs i _ blank (omega (arith, long))) (r.entered i (omega (arith, long)))))
