-- Closures over insertions that are alike are alike; the third is the definition's own. Assumes nothing.
use mathlib.Core.List.{List, [], ◌∷◌}
use Rattle.std.specs.Prelude.{Option, None, Some}
use Prim.Native.Nat.{ℕ, zero, suc}
use Rattle.contexts.specs.declared.Context.{Context}
use Rattle.definition.specs.Candidates.{Candidate, Cast, all_casts}
use Rattle.definition.specs.Tables.{Probs, Table}
use Rattle.definition.specs.Refusals.{M, ◌>>=◌, pure, max_pops}
use Rattle.definition.specs.Insertion.{insert, Queued, queued, next, offer, cast_all, closure, insert_closure}
use Rattle.search_before.specs.AnyInsertion.{Insertion, offer_by, cast_all_by, closure_by, insert_closure_by}
use Rattle.search_before.proofs.Alike.{Alike, itself, bind-alike}

-- two ways of inserting that are alike to the definition's
pub record AlikeInsertions (Stops : ℕ → Type 0) (c : Context) (i j : Insertion) : Type 0 where
  pub each : (p : Probs) (x : Candidate) (t : Table) → Alike Stops (i c p x t) (j c p x t) (insert c p x t)

next-alike : {Stops : ℕ → Type 0} {m m₁ m₂ : Candidate → List Candidate → M Table} (q : List Candidate) (t : Table) →
    ((x : Candidate) (q : List Candidate) → Alike Stops (m x q) (m₁ x q) (m₂ x q)) →
    Alike Stops (next q (pure t) m) (next q (pure t) m₁) (next q (pure t) m₂)
next-alike [] t h = itself
next-alike (x ∷ q) t h = h x q

module _ {Stops : ℕ → Type 0} {c : Context} {i j : Insertion} (alike : AlikeInsertions Stops c i j) (p : Probs) where
  offer-alike : (x : Option Candidate) (w : Queued) → Alike Stops (offer_by i c p x w) (offer_by j c p x w) (offer c p x w)
  offer-alike None w = itself
  offer-alike (Some x) w = bind-alike (alike.each p x w.table) λ o. itself

  cast_all-alike : (x : Candidate) (fs : List Cast) (w : Queued) →
      Alike Stops (cast_all_by i c p x fs w) (cast_all_by j c p x fs w) (cast_all c p x fs w)
  unfolding cast_all_by cast_all
  cast_all-alike x [] w = itself
  cast_all-alike x (f ∷ fs) w = bind-alike (offer-alike (f x) w) λ w. cast_all-alike x fs w

  closure-alike : (pops : ℕ) (w : Queued) → Alike Stops (closure_by i c p pops w) (closure_by j c p pops w) (closure c p pops w)
  unfolding closure_by closure
  closure-alike zero w = itself
  closure-alike (suc pops) w =
      next-alike w.queue w.table λ x q. bind-alike (cast_all-alike x (all_casts c) (queued w.table q)) λ w. closure-alike pops w

  pub insert_closure-alike : (x : Candidate) (t : Table) →
      Alike Stops (insert_closure_by i c p x t) (insert_closure_by j c p x t) (insert_closure c p x t)
  unfolding insert_closure_by insert_closure
  insert_closure-alike x t = bind-alike (offer-alike (Some x) (queued t [])) λ w. closure-alike max_pops w
