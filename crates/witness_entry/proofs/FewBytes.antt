-- What the entry gives is below 2^31. Assumes nothing.
use Prim.Native.Nat.{ℕ, ◌-◌, ◌≤◌}
use mathlib.Core.List.{List}
use mathlib.Core.Path.{◌≡◌, refl, subst}
use native.Mathlib.Omega.{arith}
use lib.ListN.{length}
use Rattle.trees.specs.Fragment.{Fragment}
use Rattle.trees.specs.Reading.{Answer, done, ◌>>=◌, or_refuse, max_records}
use Rattle.trees.specs.TreeCheck.{Typed, bad_context, bad_work, context_of, check_of}
use Rattle.walk.proofs.ReadRecords.{bind_done}
use Rattle.walk.proofs.Laws.{rows}
use Rattle.witness_ways.specs.Extremes.{Extremes, sat, extremes, smallest_in, largest_in}
use Rattle.witness_ways.proofs.Theorem.{spends-computed, spends-once}
use Rattle.witness_rules.specs.Bounds.{Below, none, both}
use Rattle.witness_entry.specs.Witness.{work_of, tree_in, Results, refuses, spends, WitnessPromise}
use Rattle.witness_entry.proofs.Weights.{extremes-small}

in_bounds : {m : ℕ} {e : Extremes} → Below m e → (smallest_in e ≤ m) × (largest_in e ≤ m)
in_bounds none = (omega arith, omega arith)
in_bounds (both h k) = (h, k)

passes : (context : ℕ) (tree work : List ℕ) {x : Typed} → tree_in context tree work ≡ done x → check_of context tree max_records ≡ done x
unfolding tree_in
passes context tree work e =
    let c = bind_done (or_refuse bad_context (context_of context)) (λ _. or_refuse bad_work (work_of (length work)) >>= λ _. check_of context tree max_records) e in
    let w = bind_done (or_refuse bad_work (work_of (length work))) (λ _. check_of context tree max_records) c.2 in
    w.2

by-results : (context : ℕ) (tree work : List ℕ) {t : Answer Typed} {n a b d : ℕ} → tree_in context tree work ≡ t → Results context t n a b d
    → (b ≤ 2147483648) × (d ≤ 2147483648)
by-results context tree work e (refuses n) = (omega arith, omega arith)
by-results context tree work e (spends {c} {x} k s) =
    let r = rows context tree max_records x (passes context tree work e) in
    let small : Below 2147483648 (sat (extremes c x.tree)) =
    subst (λ (f : Fragment). Below 2147483648 (sat (extremes c f))) r.root (extremes-small c r (r.count - 1) (omega (arith, r.any))).satisfied in
    let one = spends-once c x.tree s (spends-computed c x.tree) in
    let few = in_bounds small in
    (omega (arith, one.1, few.0), omega (arith, one.2, few.1))

pub few_bytes : {context : ℕ} {tree work : List ℕ} {n a b d : ℕ} {after : List ℕ} → WitnessPromise context tree work n a b d after
    → (b ≤ 2147483648) × (d ≤ 2147483648)
few_bytes {context} {tree} {work} p = by-results context tree work refl p.gives
