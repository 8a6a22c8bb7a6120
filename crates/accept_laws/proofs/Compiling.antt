-- What compile writes is accepted, where its variables are few and False is allowed. Assumes nothing.
use Prim.Native.Nat.{ℕ}
use mathlib.Core.Bool.{Bool, true, false}
use mathlib.Core.List.{List}
use Rattle.std.specs.Prelude.{Some}
use mathlib.Core.Path.{◌≡◌, refl, sym, ap, subst, ◌∙◌}
use borrow.Author.Tests.{eq-eqb}
use lib.ListN.{length}
use Rattle.contexts.specs.declared.Context.{Context}
use Rattle.policies.specs.Policy.{Policy}
use Rattle.policies.specs.Reading as policies
use Rattle.policies.specs.Reading.{read_policy}
use Rattle.trees.specs.Fragment.{Fragment}
use Rattle.trees.specs.Reading.{Answer, refused, done, max_records}
use Rattle.trees.specs.Tree.{tree_of}
use Rattle.trees.specs.TreeCheck.{context_of, check_of}
use Rattle.walk.proofs.Laws.{rows}
use Rattle.definition_laws.specs.Laws.{Passes}
use Rattle.definition_laws.proofs.Passing.{compile-passes}
use Rattle.meaning.specs.CompileMeans.{MeansAlike}
use Rattle.meaning.proofs.Compiling.{compile-means}
use Rattle.tree_figures.specs.LocallyValid.{all_valid}
use Rattle.valid_laws.specs.CompiledValid.{falses_allowed, WritesValid}
use Rattle.valid_laws.proofs.Compiling.{compile-valid, valid-exactly}
use Rattle.variables.specs.Variables.{FewVariables}
use Rattle.truth.specs.Alike.{Alike}
use Rattle.accept_entry.specs.Accept.{work_words, too_many_variables, locally_invalid, is_b, Pair, pair_in, too_many, differs, accepts, Results, refuses, judges}
use Rattle.accept_laws.specs.Compiled.{CompiledAccepted}

module _ {p : Policy} {f : Fragment} where
  few-number : {n : ℕ} → FewVariables p f → Alike p f → Results (done (record { policy = p; tree = f })) n → n ≡ 0
  few-number few same (judges (too_many a)) = absurd (a few)
  few-number few same (judges (differs a b)) = absurd (b same)
  few-number few same (judges (accepts a b)) = refl

  many-number : {n : ℕ} → (FewVariables p f → ⊥) → Results (done (record { policy = p; tree = f })) n → n ≡ too_many_variables
  many-number many (judges (too_many a)) = refl
  many-number many (judges (differs a b)) = absurd (many a)
  many-number many (judges (accepts a b)) = absurd (many a)

refused-number : {m n : ℕ} → Results (refused m) n → n ≡ m
refused-number (refuses m) = refl

-- the pair that the entry reads, or its refusal, by whether every fragment is valid
abbrev judged : Bool → Policy → Fragment → Answer Pair
judged true p f = done (record { policy = p; tree = f })
judged false p f = refused locally_invalid

module _ (context : ℕ) (c : Context) (policy tree work : List ℕ) (k : context_of context ≡ Some c) (room : length work ≡ work_words) where
  pair_is : (p : Policy) → read_policy policy ≡ policies.done p → (x : Passes context tree) → (v : Bool) → all_valid c x.found.tree ≡ v
      → pair_in context policy tree work ≡ judged v p x.found.tree
  unfolding pair_in
  pair_is p r x true v =
      let b : is_b x.found.type.corr.base ≡ true = ap is_b x.base in
      let e = x.passed in
      let s = x.safe in
      let m = x.non_malleable in
      rw (k, eq-eqb (length work) work_words room, r, e, b, s, m, v)
  pair_is p r x false v =
      let b : is_b x.found.type.corr.base ≡ true = ap is_b x.base in
      let e = x.passed in
      let s = x.safe in
      let m = x.non_malleable in
      rw (k, eq-eqb (length work) work_words room, r, e, b, s, m, v)

pub compiled-accepted : CompiledAccepted
compiled-accepted context c work_fits policy room bytes cost nodes k below h =
    record {
      as_policy = y.as_policy;
      as_tree = y.as_tree;
      policy_read = y.policy_read;
      tree_read = y.tree_read;
      accepted = λ v few work number after l p. few-number few y.alike (results true v work l p.gives);
      too_many = λ v many work number after l p. many-number many (results true v work l p.gives);
      holds_false = λ v work number after l p. refused-number (results false v work l p.gives);
    }
  where
    x : Passes context bytes
    x = compile-passes context work_fits policy room bytes cost nodes below h

    y : MeansAlike policy bytes
    y = compile-means context work_fits policy room bytes cost nodes below h

    z : WritesValid c bytes
    z = compile-valid context c work_fits policy room bytes cost nodes k below h

    same : x.found.tree ≡ y.as_tree
    same = cc ((rows context bytes max_records x.found x.passed).writes, y.tree_read)

    also : z.tree ≡ y.as_tree
    also = cc (z.read, y.tree_read)

    valid-is : all_valid c x.found.tree ≡ falses_allowed c y.as_tree
    valid-is = ap (all_valid c) (same ∙ sym also) ∙ valid-exactly c z.tree z.each ∙ ap (falses_allowed c) also

    results : (v : Bool) → falses_allowed c y.as_tree ≡ v → (work : List ℕ) → length work ≡ work_words → {number : ℕ}
        → Results (pair_in context policy bytes work) number → Results (judged v y.as_policy y.as_tree) number
    results v e work l {number} r =
        subst (λ (a : Answer Pair). Results a number)
        (pair_is context c policy bytes work k l y.as_policy y.policy_read x v (valid-is ∙ e)
        ∙ ap (judged v y.as_policy) same) r
