-- What may be offered to a table, from the bounds of its figures and from its kind. Assumes nothing.
use mathlib.Core.Path.{◌≡◌, refl}
use mathlib.Core.Bool.{Bool, true, false, not, ◌&&◌}
use mathlib.Core.List.{List}
use Prim.Native.Nat.{ℕ, ◌<◌}
use borrow.Author.Tests.{ltb-true, eqb-false, not-true}
use lib.Dec.{ltb, eqb}
use Rattle.figures.specs.Bounds as bounds
use Rattle.figures.specs.Bounds.{Entered}
use Rattle.trees.specs.Height.{max_height}
use Rattle.candidates.specs.declared.Candidate.{Candidate}
use Rattle.memory.specs.Layout.{node_count}
use Rattle.nodes.specs.Words.{node_at}
use Rattle.nodes.specs.Answers.{max_figure, Holds, thresh_kind}
use Rattle.nodes.specs.Offers.{Offerable}

-- a kind whose children are no row
abbrev pub plain_kind : ℕ → Bool
plain_kind kind = ltb kind 64 && not (eqb kind thresh_kind)

pub both_true : (a b : Bool) → a && b ≡ true → (a ≡ true) × (b ≡ true)
both_true true b h = (refl, h)
both_true false b h = (h, cc)

pub plain-offers : {m : List ℕ} {x : Candidate} → bounds.Candidate max_height x.ext → plain_kind x.kind ≡ true → Offerable m x
plain-offers {m} {x} b plain =
    let both = both_true (ltb x.kind 64) (not (eqb x.kind thresh_kind)) plain in
    record {
      candidate = b;
      kind = ltb-true x.kind 64 both.0;
      rowed = λ is. absurd (eqb-false x.kind thresh_kind (not-true (eqb x.kind thresh_kind) both.1) is);
    }

pub node-entered : {m : List ℕ} → Holds m → {e : ℕ} → e < node_count m → Entered max_figure (node_at m e).ext
node-entered holds {e} l = (holds.nodes e l).entered
