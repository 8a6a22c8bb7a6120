-- What a cast, a pair or a triple makes of figures that have entered a table is within a candidate's bounds, one higher. Assumes nothing.
use Rattle.candidates.specs.declared.CastError.TheVariants as CastError
use Rattle.types.specs.declared.«Type».{«Type»}
use Rattle.correctness.specs.declared.TypeError.{TypeError}
use Rattle.std.specs.Prelude.{Option, Result, Ok, Err, None, Some}
use mathlib.Core.Path.{◌≡◌, subst}
use mathlib.Core.Bool.{Bool, true, false, cond}
use mathlib.Core.List.{List, [], ◌∷◌}
use Prim.Native.Nat.{ℕ, zero, suc, ◌+◌}
use native.Mathlib.Omega.{arith}
use lib.Dec.{eqb}
use lib.Ieee.{Float}
use Rattle.contexts.specs.declared.Context.{Context}
use Rattle.types.specs.TypeRules as type
use Rattle.figures.specs.declared.ExtData.{ExtData}
use Rattle.figures.specs.Rules as ext
use Rattle.figures.specs.Bounds as bounds
use Rattle.figures.specs.Bounds.{Entered}
use Rattle.figures.proofs.Entering as entering
use Rattle.costs.specs.declared.Cost.{Cost}
use Rattle.costs.specs.Rules as cost
use Rattle.candidates.specs.FragmentKinds.{AndOr}
use Rattle.candidates.specs.declared.Candidate.{Candidate}
use Rattle.candidates.specs.Casts as casts
use Rattle.candidates.specs.Casts.{Children, cast_as, cast_by, cast_from, cast_of}
use Rattle.candidates.specs.Pairs as pairs
use Rattle.candidates.specs.Pairs.{made_as, pair_by, pair_from, pair_of, and_or}

-- the figures of what is made are those of its rule

cast-ext : (kind : ℕ) (children : Children) (r : Result «Type» TypeError) (e : ExtData) (c : Cost) {y : Candidate}
    → cast_as kind children r e c ≡ Ok y → e ≡ y.ext
cast-ext kind children (Ok t) e c h = cc
cast-ext kind children (Err error) e c h = cc

made-ext : (kind first second third : ℕ) (r : Result «Type» TypeError) (e : ExtData) (c : Option Cost) {y : Candidate}
    → made_as kind first second third r e c ≡ Ok y → e ≡ y.ext
made-ext kind first second third (Ok t) e (Some c) h = cc
made-ext kind first second third (Ok t) e None h = cc
made-ext kind first second third (Err error) e c h = cc

none-known : {y : Candidate} → Err CastError.Unknown ≡ Ok y → ⊥
none-known m = let z : ◌≡◌ {A = ℕ} 0 1 = cc in omega arith

module _ {h : ℕ} (x : Candidate) (e : Entered h x.ext) (node : ℕ) {y : Candidate} where
  kept : (row : casts.Row) → bounds.Candidate (h + 1) (row.ext_rule x.ext) → cast_by row x node ≡ Ok y → bounds.Candidate (h + 1) y.ext
  kept row b m =
      subst (λ (f : ExtData). bounds.Candidate (h + 1) f)
      (cast-ext row.kind (row.children node) (row.type_rule x.ty) (row.ext_rule x.ext) (row.cost_rule x.cost) m) b

  pub cast-kept : (context : Context) (number : ℕ) → cast_of context number x node ≡ Ok y → bounds.Candidate (h + 1) y.ext
  unfolding cast_from
  cast-kept context zero m = kept casts.check (entering.check-candidate e) m
  cast-kept context (suc zero) m = kept (casts.dupif context) (entering.dupif-candidate e) m
  cast-kept context (suc (suc zero)) m = kept casts.likely (entering.cast-likely-candidate e) m
  cast-kept context (suc (suc (suc zero))) m = kept casts.unlikely (entering.cast-unlikely-candidate e) m
  cast-kept context (suc (suc (suc (suc zero)))) m = kept casts.verify (entering.verify-candidate e) m
  cast-kept context (suc (suc (suc (suc (suc zero))))) m = kept casts.nonzero (entering.nonzero-candidate e) m
  cast-kept context (suc (suc (suc (suc (suc (suc zero)))))) m = kept casts.true' (entering.cast-true-candidate e) m
  cast-kept context (suc (suc (suc (suc (suc (suc (suc zero))))))) m = kept casts.swap (entering.swap-candidate e) m
  cast-kept context (suc (suc (suc (suc (suc (suc (suc (suc zero)))))))) m = kept casts.alt (entering.alt-candidate e) m
  cast-kept context (suc (suc (suc (suc (suc (suc (suc (suc (suc zero))))))))) m = kept casts.zeronotequal (entering.zeronotequal-candidate e) m
  cast-kept context (suc (suc (suc (suc (suc (suc (suc (suc (suc (suc n)))))))))) m = absurd (none-known m)

module _ {h : ℕ} (l r : Candidate) (p : Entered h l.ext) (q : Entered h r.ext) (l_node r_node : ℕ) (lprob rprob : Float) {y : Candidate} where
  kept_pair : (row : pairs.Row) → bounds.Candidate (h + 1) (row.ext_rule l.ext r.ext)
      → pair_by row l l_node r r_node lprob rprob ≡ Ok y → bounds.Candidate (h + 1) y.ext
  kept_pair row b m =
      subst (λ (f : ExtData). bounds.Candidate (h + 1) f)
      (made-ext row.kind l_node r_node 0 (row.type_rule l.ty r.ty) (row.ext_rule l.ext r.ext)
      (row.cost_rule l.cost r.cost lprob rprob) m) b

  kept_next : (row : pairs.Row) (rest : List pairs.Row) (b : Bool) (kind : ℕ) → bounds.Candidate (h + 1) (row.ext_rule l.ext r.ext)
      → (pair_from rest kind l l_node r r_node lprob rprob ≡ Ok y → bounds.Candidate (h + 1) y.ext)
      → cond b (pair_by row l l_node r r_node lprob rprob) (pair_from rest kind l l_node r r_node lprob rprob) ≡ Ok y
      → bounds.Candidate (h + 1) y.ext
  kept_next row rest true kind b next m = kept_pair row b m
  kept_next row rest false kind b next m = next m

  kept-none : (kind : ℕ) → pair_from [] kind l l_node r r_node lprob rprob ≡ Ok y → bounds.Candidate (h + 1) y.ext
  unfolding pair_from
  kept-none kind m = let z : ◌≡◌ {A = ℕ} 0 1 = cc in absurd (omega arith)

  kept_row : (row : pairs.Row) (rest : List pairs.Row) (kind : ℕ) → bounds.Candidate (h + 1) (row.ext_rule l.ext r.ext)
      → (pair_from rest kind l l_node r r_node lprob rprob ≡ Ok y → bounds.Candidate (h + 1) y.ext)
      → pair_from (row ∷ rest) kind l l_node r r_node lprob rprob ≡ Ok y → bounds.Candidate (h + 1) y.ext
  unfolding pair_from
  kept_row row rest kind b next m = kept_next row rest (eqb kind row.kind) kind b next m

  pub pair-kept : (kind : ℕ) → pair_of kind l l_node r r_node lprob rprob ≡ Ok y → bounds.Candidate (h + 1) y.ext
  pair-kept kind =
      kept_row pairs.and_b _ kind (entering.and-b-candidate p q)
      (kept_row pairs.and_v _ kind (entering.and-v-candidate p q)
      (kept_row pairs.or_b _ kind (entering.or-b-candidate p q)
      (kept_row pairs.or_d _ kind (entering.or-d-candidate p q)
      (kept_row pairs.or_c _ kind (entering.or-c-candidate p q)
      (kept_row pairs.or_i _ kind (entering.or-i-candidate p q) (kept-none kind))))))

pub and-or-kept : {h : ℕ} (a b c : Candidate) → Entered h a.ext → Entered h b.ext → Entered h c.ext
    → (a_node b_node c_node : ℕ) (aprob cprob : Float) {y : Candidate} → and_or a a_node b b_node c c_node aprob cprob ≡ Ok y
    → bounds.Candidate (h + 1) y.ext
and-or-kept {h} a b c p q r a_node b_node c_node aprob cprob m =
    subst (λ (f : ExtData). bounds.Candidate (h + 1) f)
    (made-ext AndOr a_node b_node c_node (type.and_or a.ty b.ty c.ty) (ext.and_or a.ext b.ext c.ext)
    (cost.and_or a.cost b.cost c.cost aprob cprob) m) (entering.and-or-candidate p q r)
