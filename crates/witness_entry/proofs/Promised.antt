-- The entry's promise: what the check refuses is refused, and a tree that passes has its extremes. Assumes nothing.
use Prim.Native.Nat.{ℕ, ◌+◌, ◌-◌, ◌*◌, ◌≤◌, ◌<◌}
use mathlib.Core.List.{List, ◌++◌}
use Rattle.std.specs.Prelude.{None, Some, Result, Ok, Err}
use mathlib.Core.Path.{◌≡◌, refl, sym, ap, ◌∙◌}
use native.Mathlib.Omega.{arith}
use borrow.Author.Tests.{eq-eqb, ne_eqb, eqb-true, eqb-false}
use mathlib.Core.Bool.{Bool, true, false}
use lib.Dec.{eqb}
use lib.ListN.{length, take, drop, replicate, length-append, length-drop}
use lib.Seq.{length-take-le}
use Rattle.words.specs.Memory.{zeroed}
use Rattle.contexts.specs.declared.Context.{Context}
use Rattle.contexts.specs.declared.Context.TheVariants.{Segwitv0, Tap}
use Rattle.trees.specs.Fragment.{Fragment}
use Rattle.trees.specs.Reading.{Answer, refused, done}
use Rattle.trees.specs.TreeCheck.{Typed, context_of, check_of}
use Rattle.refusals.specs.declared.Refusal.{Refusal}
use Rattle.refusals.specs.Numbers.{number_of}
use Rattle.types.specs.declared.«Type».{«Type»}
use Rattle.trees.specs.Checked.{type_only}
use Rattle.claspwillow.specs.Results.{number_in}
use Rattle.claspwillow.proofs.CheckLaws.{Passed, passed-as, refused-by}
use Rattle.walk.specs.TreeRecords.{fragment_at, TreeRecords, Written}
use Rattle.walk.proofs.Laws.{rows}
use Rattle.witness_ways.specs.declared.Both.{Both}
use Rattle.witness_ways.specs.Extremes.{Extremes, sat, extremes}
use Rattle.witness_ways.proofs.Theorem.{spends-computed}
use Rattle.witness_entry.specs.Witness.{work_words, tree_in, Results, refuses, spends, WitnessPromise}
use Rattle.witness_entry.specs.Memory.{both_in}
use Rattle.witness_entry.specs.Records.{Filled, Answered, passes, fails, found_by, smallest_by, largest_by}

-- ---- the root

pub root-inside : {c : Context} {tree work : List ℕ} {count : ℕ} → Filled c tree work count → Written tree → length work ≡ work_words
    → (1 ≤ count) × (2 * (count - 1) + 1 < length work)
root-inside filled w room =
    let same = filled.counts w.root w.rows in
    (omega (arith, same, w.rows.any), omega (arith, same, w.rows.any, w.rows.few, room))

pub root_is : {c : Context} {tree work : List ℕ} {count : ℕ} → Filled c tree work count → {x : Both} → x ≡ both_in work (count - 1)
    → (f : Fragment) → TreeRecords tree f → x.satisfied ≡ sat (extremes c f)
root_is {c} {tree} {work} {count} filled e f r =
    let same = filled.counts f r in
    let last : both_in work (count - 1) ≡ extremes c (fragment_at tree (count - 1)) = filled.each (count - 1) (omega (arith, same, r.any)) in
    let root : fragment_at tree (count - 1) ≡ f = ap (λ (n : ℕ). fragment_at tree (n - 1)) same ∙ r.root in
    ap (λ (x : Both). x.satisfied) (e ∙ last) ∙ ap (λ (f : Fragment). sat (extremes c f)) root

-- ---- work memory, of which the check takes the first half

pub first-long : (w : List ℕ) → length w ≡ 8192 → length (take 4096 w) ≡ 4096
first-long w l = length-take-le 4096 w (omega (arith, l))

pub joined-long : (w p : List ℕ) → length w ≡ 8192 → length p ≡ 4096 → length (p ++ drop 4096 w) ≡ 8192
joined-long w p l k = length-append p (drop 4096 w) ∙ omega (arith, l, k, length-drop 4096 w)

-- ---- the entry's answers

no-context : (context : ℕ) → 2 ≤ context → context_of context ≡ None
no-context context h = rw (ne_eqb context 0 (λ e. omega arith), ne_eqb context 1 (λ e. omega arith))

some-context : (context : ℕ) → context < 2 → (c : Context) × (context_of context ≡ Some c)
some-context context h = by-number (eqb context 0) refl
  where
    second : context ≡ 1 → (c : Context) × (context_of context ≡ Some c)
    second e = (Tap, rw e)

    by-number : (b : Bool) → eqb context 0 ≡ b → (c : Context) × (context_of context ≡ Some c)
    by-number true t =
        let first = eqb-true context 0 t in
        (Segwitv0, rw first)
    by-number false t = second (omega (arith, eqb-false context 0 t))

module _ (context : ℕ) (tree work : List ℕ) where
  pub of-no-context : 2 ≤ context → Answered context tree work (Err Refusal.BadContext)
  unfolding tree_in
  of-no-context h = fails (rw (no-context context h))

  pub of-other-length : context < 2 → (length work ≡ work_words → ⊥) → Answered context tree work (Err Refusal.BadWork)
  unfolding tree_in
  of-other-length h l =
      let c = some-context context h in
      fails (rw (c.1, ne_eqb (length work) work_words l))

  module _ (h : context < 2) (room : length work ≡ work_words) where
    tree-in : {a : Answer Typed} → check_of context tree (length (take 4096 work)) ≡ a → tree_in context tree work ≡ a
    unfolding tree_in
    tree-in {a} e =
        let c = some-context context h in
        let half = first-long work room in
        rw (c.1, eq-eqb (length work) work_words room) (sym (ap (check_of context tree) half) ∙ e)

    pub of-refused : {r : Refusal} → refused (number_of r) ≡ type_only (check_of context tree (length (take 4096 work))) → Answered context tree work (Err r)
    of-refused e = fails (tree-in (refused-by context tree (take 4096 work) e))

    module _ {t : «Type»} (passed : done t ≡ type_only (check_of context tree (length (take 4096 work)))) where
      its-tree : Passed context tree (take 4096 work)
      its-tree = passed-as context tree (take 4096 work) passed

      tree-rows : TreeRecords tree its-tree.typed.tree
      tree-rows = rows context tree (length (take 4096 work)) its-tree.typed its-tree.passes

      pub tree-written : Written tree
      tree-written = record { root = its-tree.typed.tree; rows = tree-rows }

      pub of-passed : {c₀ : Context} → ((c : Context) → context_of context ≡ Some c → c₀ ≡ c) → {e : Extremes}
          → ((f : Fragment) → TreeRecords tree f → e ≡ sat (extremes c₀ f)) → Answered context tree work (Ok e)
      of-passed {c₀} is root =
          let p = its-tree in
          passes p.context-is (tree-in p.passes)
          (root p.typed.tree tree-rows ∙ ap (λ (c : Context). sat (extremes c p.typed.tree)) (is p.its-context p.context-is))

-- ---- the entry keeps its promise

results : (context : ℕ) (tree work : List ℕ) {r : Result Extremes Refusal} → Answered context tree work r
    → Results context (tree_in context tree work) (number_in r) (found_by r) (smallest_by r) (largest_by r)
results context tree work (passes {c} {x} k e s) =
    rw (e, s) (spends k (spends-computed c x.tree))
results context tree work (fails {r} e) = rw e (refuses (number_of r))

pub promised : (context : ℕ) (tree work worked : List ℕ) {after : List ℕ} {r : Result Extremes Refusal} → Answered context tree work r
    → length worked ≡ length work → after ≡ zeroed worked
    → WitnessPromise context tree work (number_in r) (found_by r) (smallest_by r) (largest_by r) after
promised context tree work worked a e c = record { gives = results context tree work a; clears = c ∙ ap (λ (n : ℕ). replicate n 0) e }
