-- Which rule a kind has, a range of kinds at a time. Assumes nothing.
use Prim.Native.Nat.{ℕ, ◌≤◌, ◌<◌}
use mathlib.Core.List.{List}
use mathlib.Core.Logic.{◌⊎◌, inl, inr}
use mathlib.Core.Path.{◌≡◌}
use native.Mathlib.Omega.{arith}
use borrow.Author.Tests.{le-leb, lt-leb, ne_eqb}
use lib.ListN.{take}
use Rattle.contexts.specs.declared.Context.{Context}
use Rattle.witness_ways.specs.declared.Both.{Both}
use Rattle.witness_ways.specs.Extremes.{and_or_ways}
use Rattle.witness_rules.specs.ByKind.{leaf_of, cast_of, pair_of, thresh_ways, child, ways_of}

module _ (c : Context) (kind k n : ℕ) (xs : List Both) where
  pub of-cast : 42 ≤ kind → kind < 49 → cast_of kind (child xs 0) ≡ ways_of c kind k n xs
  of-cast l h = simp (le-leb 42 kind l, le-leb kind 48 (omega arith))

  pub of_pair : 49 ≤ kind → kind < 55 → pair_of kind (child xs 0) (child xs 1) ≡ ways_of c kind k n xs
  of_pair l h = simp (lt-leb kind 48 (omega arith), le-leb 42 kind (omega arith), le-leb 49 kind l, le-leb kind 54 (omega arith))

  pub of-and-or : kind ≡ 55 → and_or_ways (child xs 0) (child xs 1) (child xs 2) ≡ ways_of c kind k n xs
  of-and-or e = simp e

  pub of-thresh : kind ≡ 56 → thresh_ways k (take n xs) ≡ ways_of c kind k n xs
  of-thresh e = simp e

  below : kind < 42 → leaf_of c kind k n ≡ ways_of c kind k n xs
  below h = simp (lt-leb 42 kind h, lt-leb 49 kind (omega arith), ne_eqb kind 55 (omega arith), ne_eqb kind 56 (omega arith))

  above : 55 ≤ kind → (kind ≡ 55 → ⊥) → (kind ≡ 56 → ⊥) → leaf_of c kind k n ≡ ways_of c kind k n xs
  above h p q =
      simp (
        le-leb 42 kind (omega arith),
        lt-leb kind 48 (omega arith),
        le-leb 49 kind (omega arith),
        lt-leb kind 54 (omega arith),
        ne_eqb kind 55 p,
        ne_eqb kind 56 q,
      )

  pub of-leaf : (kind < 42) ⊎ (55 ≤ kind) → (kind ≡ 55 → ⊥) → (kind ≡ 56 → ⊥) → leaf_of c kind k n ≡ ways_of c kind k n xs
  of-leaf (inl h) p q = below h
  of-leaf (inr h) p q = above h p q
