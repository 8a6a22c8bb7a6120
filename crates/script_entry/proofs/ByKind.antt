-- The pieces of a kind that is none of those with a piece of their own, and what follows a child by its number. Assumes nothing.
use Prim.Native.Nat.{ℕ, zero, suc}
use mathlib.Core.Bool.{Bool}
use mathlib.Core.List.{[], ◌∷◌}
use mathlib.Core.Path.{◌≡◌, refl}
use borrow.Author.Tests.{ne_eqb}
use Rattle.trees.specs.Tree.{find}
use Rattle.script_bytes.specs.Layout.{verify_byte}
use Rattle.script_entry.specs.Pieces.{front, after_later, after, closing, last}

module _ (kind : ℕ) where
  pub front-other : (kind ≡ 42 → ⊥) → (kind ≡ 43 → ⊥) → (kind ≡ 45 → ⊥) → (kind ≡ 47 → ⊥) → (kind ≡ 54 → ⊥) → [] ≡ front kind
  unfolding find
  front-other a b c d e = simp (ne_eqb kind 42 a, ne_eqb kind 43 b, ne_eqb kind 45 c, ne_eqb kind 47 d, ne_eqb kind 54 e)

  pub first-other : (kind ≡ 52 → ⊥) → (kind ≡ 53 → ⊥) → (kind ≡ 54 → ⊥) → (kind ≡ 55 → ⊥) → [] ≡ after kind 0
  unfolding find
  first-other a b c d = simp (ne_eqb kind 52 a, ne_eqb kind 53 b, ne_eqb kind 54 c, ne_eqb kind 55 d)

  pub last-other : (k : ℕ) (v : Bool) {n : ℕ} → (kind ≡ 43 → ⊥) → (kind ≡ 44 → ⊥) → (kind ≡ 46 → ⊥) → (kind ≡ 50 → ⊥)
      → (kind ≡ 56 → ⊥) → n ≡ closing kind → n ∷ verify_byte v ≡ last kind k v
  unfolding find
  last-other k v a b c d e f = rw f (simp (ne_eqb kind 43 a, ne_eqb kind 44 b, ne_eqb kind 46 c, ne_eqb kind 50 d, ne_eqb kind 56 e))

  -- after a child that is not the first
  later : (j : ℕ) → (j ≡ 0 → ⊥) → after_later kind j ≡ after kind j
  later zero h = absurd (h refl)
  later (suc j) h = refl
