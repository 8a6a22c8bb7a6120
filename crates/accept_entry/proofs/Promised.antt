-- What the entry gives by its context and its work memory. Assumes nothing.
use Prim.Native.Nat.{ℕ, ◌≤◌, ◌<◌}
use mathlib.Core.Bool.{Bool, true, false}
use mathlib.Core.List.{List}
use Rattle.std.specs.Prelude.{None, Some}
use mathlib.Core.Path.{◌≡◌, refl}
use native.Mathlib.Omega.{arith}
use borrow.Author.Tests.{eq-eqb, ne_eqb, eqb-false}
use lib.Dec.{eqb}
use lib.ListN.{length}
use Rattle.contexts.specs.declared.Context.{Context}
use Rattle.contexts.specs.declared.Context.TheVariants.{Segwitv0, Tap}
use Rattle.trees.specs.TreeCheck.{context_of}
use Rattle.accept_entry.specs.Accept.{work_words, read_both, pair_in, Results, refuses}

module _ (context : ℕ) (policy tree work : List ℕ) where
  -- a context below 2 is one
  has-context : context < 2 → (c : Context) × (context_of context ≡ Some c)
  has-context l = by-test (eqb context 0) (eqb context 1) refl refl
    where
      by-test : (a b : Bool) → eqb context 0 ≡ a → eqb context 1 ≡ b → (c : Context) × (context_of context ≡ Some c)
      by-test true b p q = (Segwitv0, rw p)
      by-test false true p q = (Tap, rw (p, q))
      by-test false false p q = absurd (omega (arith, eqb-false context 0 p, eqb-false context 1 q))

  no-context : 2 ≤ context → context_of context ≡ None
  no-context l = rw (ne_eqb context 0 (λ e. omega arith), ne_eqb context 1 (λ e. omega arith))

  pub of-no-context : 2 ≤ context → Results (pair_in context policy tree work) 1
  unfolding pair_in
  of-no-context l = rw (no-context l) (refuses 1)

  module _ (l : context < 2) where
    pub of-other-length : (length work ≡ work_words → ⊥) → Results (pair_in context policy tree work) 2
    unfolding pair_in
    of-other-length h =
        let c = has-context l in
        let k = c.1 in
        rw (k, ne_eqb (length work) work_words h) (refuses 2)

    pub of-both : length work ≡ work_words → {n : ℕ} → ((c : Context) → context_of context ≡ Some c → Results (read_both c context policy tree) n)
        → Results (pair_in context policy tree work) n
    unfolding pair_in
    of-both room {n} j =
        let c = has-context l in
        let k = c.1 in
        rw (k, eq-eqb (length work) work_words room) (j c.0 c.1)
