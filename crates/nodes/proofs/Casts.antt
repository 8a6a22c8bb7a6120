-- A cast of a node, as the code makes it, stands for the definition's cast of what the node stands for, and it may be offered to a table.
-- Assumes nothing.
use Rattle.candidates.specs.declared.CastError.{CastError}
use Rattle.types.specs.declared.«Type».{«Type»}
use Rattle.correctness.specs.declared.TypeError.{TypeError}
use mathlib.Core.Path.{◌≡◌, refl, sym, ◌∙◌, ap}
use mathlib.Core.Bool.{Bool, true, ◌&&◌}
use mathlib.Core.List.{List, [], ◌∷◌}
use Rattle.std.specs.Prelude.{Option, None, Some, Result, Ok, Err}
use Prim.Native.Nat.{ℕ, zero, suc, ◌<◌}
use lib.ListN.{drop}
use lib.Seq.{drop-cons}
use Rattle.contexts.specs.declared.Context.{Context}
use Rattle.figures.specs.declared.ExtData.{ExtData}
use Rattle.costs.specs.declared.Cost.{Cost}
use Rattle.trees.specs.Fragment.{Fragment, False, True, Alt, Swap, Check, DupIf, Verify, NonZero, ZeroNotEqual, AndV, OrI}
use Rattle.trees.specs.Tree.{find}
use Rattle.definition.specs.Candidates as definition
use Rattle.definition.specs.Candidates.{Candidate, typed_as, cast_no}
use Rattle.candidates.specs.declared.Candidate as code
use Rattle.candidates.specs.Casts as casts
use Rattle.candidates.specs.Casts.{Row, Children, cast_as, cast_by, cast_from, cast_of}
use Rattle.candidates.proofs.Kept.{cast-kept}
use Rattle.memory.specs.Layout.{node_count}
use Rattle.nodes.specs.Words.{node_at}
use Rattle.nodes.specs.Views.{tree_of, seen_as, seen, offered}
use Rattle.nodes.specs.Answers.{Holds}
use Rattle.nodes.specs.Offers.{Offerable}
use Rattle.nodes.proofs.Seen.{Shows, TreeIs, seen-fields, seen_false, seen_true}
use Rattle.nodes.proofs.Offers.{both_true, plain_kind, plain-offers}

-- what the code's cast stands for
abbrev pub cast_seen : (pol m : List ℕ) → Result code.Candidate CastError → Option Candidate
cast_seen pol m (Ok y) = Some (offered pol m y)
cast_seen pol m (Err e) = None

-- each cast in turn
pub casts-from : (c : Context) (n : ℕ) → n < 10 → drop n (definition.all_casts c) ≡ cast_no c n ∷ drop (suc n) (definition.all_casts c)
casts-from c n h = drop-cons (definition.all_casts c) n (λ x. None) h

-- ---- what a cast stands for

as-typed : (pol m : List ℕ) (kind : ℕ) (children : Children) (f : Fragment) → TreeIs pol m kind children.first children.second 0 f
    → (r : Result «Type» TypeError) (d : ExtData) (c : Cost) → cast_seen pol m (cast_as kind children r d c) ≡ typed_as r f d c
unfolding seen_as
as-typed pol m kind children f is (Ok t) d c = ap (λ (g : Fragment). Some (definition.candidate g t d c)) (is t d c)
as-typed pol m kind children f is (Err TypeError.IllTyped) d c = refl

-- any cast, by its rules and its tree
row_seen : (pol m : List ℕ) (e : ℕ) (s : Candidate) (x : code.Candidate) → Shows s x → (row : Row) (f : Fragment)
    → TreeIs pol m row.kind (row.children e).first (row.children e).second 0 f
    → cast_seen pol m (cast_by row x e) ≡ typed_as (row.type_rule s.ty) f (row.ext_rule s.ext) (row.cost_rule s.cost)
row_seen pol m e s x same row f is =
    rw (same.ty, same.ext, same.cost)
    (as-typed pol m row.kind (row.children e) f is (row.type_rule x.ty) (row.ext_rule x.ext) (row.cost_rule x.cost))

module _ {m : List ℕ} (holds : Holds m) (pol : List ℕ) (e : ℕ) (l : e < node_count m) where
  of_row : (row : Row) (f : Fragment) → TreeIs pol m row.kind (row.children e).first (row.children e).second 0 f
      → cast_seen pol m (cast_by row (node_at m e) e)
      ≡ typed_as (row.type_rule (seen pol m e).ty) f (row.ext_rule (seen pol m e).ext) (row.cost_rule (seen pol m e).cost)
  of_row row f is = row_seen pol m e (seen pol m e) (node_at m e) (seen-fields pol m e l) row f is

  tree : Fragment
  tree = (seen pol m e).tree

  pub cast-seen : (c : Context) (n : ℕ) → cast_seen pol m (cast_of c n (node_at m e) e) ≡ cast_no c n (seen pol m e)
  unfolding cast_from tree_of find tree
  cast-seen c zero = of_row casts.check (Check tree) (λ t d c. refl)
  cast-seen c (suc zero) = of_row (casts.dupif c) (DupIf tree) (λ t d c. refl)
  cast-seen c (suc (suc zero)) = of_row casts.likely (OrI False tree) (λ t d c. ap (λ (s : Candidate). OrI s.tree tree) (seen_false holds pol))
  cast-seen c (suc (suc (suc zero))) =
      of_row casts.unlikely (OrI tree False) (λ t d c. ap (λ (s : Candidate). OrI tree s.tree) (seen_false holds pol))
  cast-seen c (suc (suc (suc (suc zero)))) = of_row casts.verify (Verify tree) (λ t d c. refl)
  cast-seen c (suc (suc (suc (suc (suc zero))))) = of_row casts.nonzero (NonZero tree) (λ t d c. refl)
  cast-seen c (suc (suc (suc (suc (suc (suc zero)))))) =
      of_row casts.true' (AndV tree True) (λ t d c. ap (λ (s : Candidate). AndV tree s.tree) (seen_true holds pol))
  cast-seen c (suc (suc (suc (suc (suc (suc (suc zero))))))) = of_row casts.swap (Swap tree) (λ t d c. refl)
  cast-seen c (suc (suc (suc (suc (suc (suc (suc (suc zero)))))))) = of_row casts.alt (Alt tree) (λ t d c. refl)
  cast-seen c (suc (suc (suc (suc (suc (suc (suc (suc (suc zero))))))))) = of_row casts.zeronotequal (ZeroNotEqual tree) (λ t d c. refl)
  cast-seen c (suc (suc (suc (suc (suc (suc (suc (suc (suc (suc n)))))))))) = refl

-- ---- a cast may be offered

cast-kind : (kind : ℕ) (children : Children) (r : Result «Type» TypeError) (d : ExtData) (c : Cost) {y : code.Candidate}
    → cast_as kind children r d c ≡ Ok y → kind ≡ y.kind
cast-kind kind children (Ok t) d c h = cc
cast-kind kind children (Err TypeError.IllTyped) d c h = cc

all_plain : List Row → Bool
all_plain [] = true
all_plain (r ∷ rows) = plain_kind r.kind && all_plain rows

plain-from : (rows : List Row) → all_plain rows ≡ true → (n : ℕ) (x : code.Candidate) (e : ℕ) {y : code.Candidate}
    → cast_from rows n x e ≡ Ok y → plain_kind y.kind ≡ true
unfolding cast_from all_plain
plain-from [] p n x e m = cc
plain-from (r ∷ rows) p zero x e m =
    let k = cast-kind r.kind (r.children e) (r.type_rule x.ty) (r.ext_rule x.ext) (r.cost_rule x.cost) m in
    ap plain_kind (sym k) ∙ (both_true (plain_kind r.kind) (all_plain rows) p).0
plain-from (r ∷ rows) p (suc n) x e m = plain-from rows (both_true (plain_kind r.kind) (all_plain rows) p).1 n x e m

pub cast-fresh : {m : List ℕ} → Holds m → {e : ℕ} → e < node_count m → (c : Context) (n : ℕ) {y : code.Candidate}
    → cast_of c n (node_at m e) e ≡ Ok y → Offerable m y
unfolding all_plain
cast-fresh {m} holds {e} l c n is =
    plain-offers (cast-kept (node_at m e) (holds.nodes e l).entered e c n is) (plain-from (casts.all_casts c) refl n (node_at m e) e is)
