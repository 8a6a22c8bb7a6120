-- What the code asks of a candidate in memory, its validity and its cost, is what the definition asks of what it stands for. Assumes nothing.
use mathlib.Core.Path.{◌≡◌, refl, sym, ◌∙◌, ap}
use mathlib.Core.Bool.{Bool, true, false, cond, ◌&&◌}
use mathlib.Core.List.{List, [], ◌∷◌}
use Rattle.std.specs.Prelude.{Some}
use Prim.Native.Nat.{ℕ, suc, ◌<◌}
use native.Mathlib.Omega.{arith}
use borrow.Author.Tests.{eqb-true}
use lib.Dec.{eqb, leb}
use Rattle.contexts.specs.declared.Context.{Context}
use Rattle.contexts.specs.declared.Context.TheVariants.{Segwitv0, Tap}
use Rattle.figures.specs.declared.ExtData.{ExtData}
use Rattle.figures.specs.Validity.{check_local_validity}
use Rattle.figures.proofs.Entering.{valid-entered}
use Rattle.costs.specs.Cost1d.{cost1d}
use Rattle.trees.specs.Fragment.{Fragment}
use Rattle.trees.specs.Tree.{Line, find}
use Rattle.trees.specs.Height.{max_height}
use Rattle.definition.specs.Candidates.{kind_of}
use Rattle.definition.specs.Tables.{Table, Probs, cost_at}
use Rattle.definition.specs.Insertion.{worthwhile}
use Rattle.candidates.specs.declared.Candidate.{Candidate}
use Rattle.nodes.specs.Views.{Parts, makers, make_by, parts_of, tree_of, seen_as, all_nodes, offered}
use Rattle.nodes.specs.Answers.{Fresh}
use Rattle.nodes.specs.Offers.{Offerable}
use Rattle.nodes.proofs.Offers.{both_true}

-- ---- a kind that a context refuses is that of the tree

-- the kind, if a context refuses it, and 0 if none does
abbrev pub refusable : ℕ → ℕ
refusable kind = cond (eqb kind 57) 57 (cond (eqb kind 58) 58 0)

-- each line makes a tree of its kind
all_right : Parts → List (Line (Parts → Fragment)) → Bool
all_right p [] = true
all_right p (line ∷ lines) = eqb (kind_of (line.this p)) (refusable line.kind) && all_right p lines

module _ (p : Parts) (kind : ℕ) where
  by-line : (b : Bool) (line : Line (Parts → Fragment)) (lines : List (Line (Parts → Fragment))) → eqb kind line.kind ≡ b
      → kind_of (line.this p) ≡ refusable line.kind → kind_of (make_by (find kind lines) p) ≡ refusable kind
      → kind_of (make_by (cond b (Some line.this) (find kind lines)) p) ≡ refusable kind
  by-line true line lines t is others = is ∙ ap refusable (sym (eqb-true kind line.kind t))
  by-line false line lines t is others = others

  of-lines : (lines : List (Line (Parts → Fragment))) → all_right p lines ≡ true → refusable kind ≡ 0
      → kind_of (make_by (find kind lines) p) ≡ refusable kind
  unfolding all_right find
  of-lines [] right low = sym low
  of-lines (line ∷ lines) right low =
      let both = both_true (eqb (kind_of (line.this p)) (refusable line.kind)) (all_right p lines) right in
      by-line (eqb kind line.kind) line lines refl (eqb-true (kind_of (line.this p)) (refusable line.kind) both.0)
      (of-lines lines both.1 low)

  of-makers : (b c : Bool) → eqb kind 57 ≡ b → eqb kind 58 ≡ c → kind_of (make_by (find kind makers) p) ≡ refusable kind
  unfolding all_right find
  of-makers true c t u = rw (eqb-true kind 57 t)
  of-makers false true t u = rw (eqb-true kind 58 u)
  of-makers false false t u = of-lines makers refl (rw (t, u))

pub tree-kind : (pol m : List ℕ) (xs : Table) (x : Candidate) → kind_of (tree_of pol m xs x) ≡ refusable x.kind
unfolding tree_of
tree-kind pol m xs x = of-makers (parts_of pol m xs x) x.kind (eqb x.kind 57) (eqb x.kind 58) refl refl

same-57 : (kind : ℕ) (b c : Bool) → eqb kind 57 ≡ b → eqb kind 58 ≡ c → eqb (refusable kind) 57 ≡ eqb kind 57
same-57 kind true c t u = rw (eqb-true kind 57 t)
same-57 kind false true t u = rw (eqb-true kind 58 u)
same-57 kind false false t u = rw (t, u)

same-58 : (kind : ℕ) (b c : Bool) → eqb kind 57 ≡ b → eqb kind 58 ≡ c → eqb (refusable kind) 58 ≡ eqb kind 58
same-58 kind true c t u = rw (eqb-true kind 57 t)
same-58 kind false true t u = rw (eqb-true kind 58 u)
same-58 kind false false t u = rw (t, u)

valid_same : (c : Context) (kind : ℕ) (d : ExtData) → check_local_validity c (refusable kind) d ≡ check_local_validity c kind d
unfolding check_local_validity
valid_same Segwitv0 kind d = rw (same-58 kind (eqb kind 57) (eqb kind 58) refl refl)
valid_same Tap kind d = rw (same-57 kind (eqb kind 57) (eqb kind 58) refl refl)

pub valid-kind : (pol m : List ℕ) (xs : Table) (x : Candidate) (c : Context)
    → check_local_validity c (kind_of (tree_of pol m xs x)) x.ext ≡ check_local_validity c x.kind x.ext
valid-kind pol m xs x c = ap (λ (k : ℕ). check_local_validity c k x.ext) (tree-kind pol m xs x) ∙ valid_same c x.kind x.ext

-- ---- what is asked of a candidate

module _ (pol m : List ℕ) (x : Candidate) where
  pub worthwhile-is : (c : Context)
      → worthwhile c (offered pol m x)
      ≡ ((x.ty.mall.non_malleable && check_local_validity c x.kind x.ext) && leb (suc x.ext.tree_height) max_height)
  unfolding seen_as
  worthwhile-is c =
      ap (λ (b : Bool). (x.ty.mall.non_malleable && b) && leb (suc x.ext.tree_height) max_height)
      (valid-kind pol m (all_nodes pol m) x c)

  pub cost-is : (p : Probs) → cost_at p (offered pol m x) ≡ cost1d x.ext.pk_cost x.cost p.sat p.dissat
  unfolding seen_as
  cost-is p = refl

-- what may be offered, is valid and not too tall, may become a node
pub valid-fresh : {m : List ℕ} {x : Candidate} (c : Context) → Offerable m x → check_local_validity c x.kind x.ext ≡ true
    → x.ext.tree_height < max_height → Fresh m x
valid-fresh {m} {x} c o v l =
    let entered = valid-entered c x.kind o.candidate v in
    record {
      entered = record { within = entered.within; cost = entered.cost; low = omega arith };
      kind = o.kind;
      rowed = o.rowed;
    }
