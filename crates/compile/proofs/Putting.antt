-- The tree of the root is one that can be written, and what is written is the definition's outcome. Assumes nothing.
use Rattle.refusals.specs.declared.Refusal.{Refusal}
use Rattle.std.specs.Prelude.{Option, None, Some, Result, Ok, Err}
use mathlib.Core.Bool.{Bool, true, false}
use mathlib.Core.List.{List, []}
use mathlib.Core.Logic.{◌⊎◌, inl, inr}
use mathlib.Core.Path.{◌≡◌, refl, sym, ap, subst, ◌∙◌}
use Prim.Native.Nat.{ℕ, ◌+◌, ◌-◌, ◌<◌, ◌≤◌}
use native.Mathlib.Omega.{arith}
use borrow.Author.Tests.{le-leb, leb-true}
use lib.Dec.{leb}
use lib.ListN.{length}
use Rattle.contexts.specs.declared.Context.{Context}
use Rattle.costs.specs.declared.Price.{Price}
use Rattle.costs.specs.Price.{cost_bits, never_flag}
use Rattle.trees.specs.Fragment.{Fragment}
use Rattle.writing.specs.Writing.{size, bytes_of_tree}
use Rattle.policies.specs.Array.{policy_at}
use Rattle.definition.specs.Candidates.{Candidate}
use Rattle.definition.specs.Tables.{cost_at}
use Rattle.definition.specs.Refusals.{State, state, Res, done, OutputTooSmall}
use Rattle.definition.specs.Compile.{Outcome, compiled, refused_with, max_records, root_probs, best_compilation, fitting, outcome, compile_policy}
use Rattle.definition_laws.specs.Laws.{Gives, gives}
use Rattle.definition_laws.proofs.Compiling.{RootWell, best_compilation-keeps, start-proper}
use Rattle.memory.specs.Layout.{node_count}
use Rattle.nodes.specs.Views.{seen}
use Rattle.search_state.specs.State.{state_in}
use Rattle.choice.specs.Chosen.{price_at}
use Rattle.choice.proofs.Below.{seen-price}
use Rattle.output.specs.Answers.{Wrote, wrote, too_small}
use Rattle.compile.specs.declared.Compiled.{Compiled}
use Rattle.compile.specs.Answers as answers
use Rattle.compile.specs.Answers.{Compiles, Whole, Finds, Writable, IsRoot, root_answer}

-- ---- what is written

fits_in : (t : Fragment) (room : ℕ) (cost : Price) (nodes : ℕ) → size t ≤ max_records → length (bytes_of_tree t) ≤ room →
    fitting room t cost nodes ≡ compiled (bytes_of_tree t) cost nodes
fits_in t room cost nodes a b = rw (le-leb _ _ a, le-leb _ _ b)

too_large : (t : Fragment) (room : ℕ) (cost : Price) (nodes : ℕ) → (max_records < size t) ⊎ (room < length (bytes_of_tree t)) →
    fitting room t cost nodes ≡ refused_with OutputTooSmall
too_large t room cost nodes (inl a) = by_first (leb (size t) max_records) refl
  where
    by_first : (b : Bool) → leb (size t) max_records ≡ b → fitting room t cost nodes ≡ refused_with OutputTooSmall
    by_first false e = rw e
    by_first true e = absurd (omega (arith, leb-true (size t) max_records e))
too_large t room cost nodes (inr a) = by_both (leb (size t) max_records) (leb (length (bytes_of_tree t)) room) refl refl
  where
    by_both : (x y : Bool) → leb (size t) max_records ≡ x → leb (length (bytes_of_tree t)) room ≡ y → fitting room t cost nodes ≡ refused_with OutputTooSmall
    by_both false y e f = rw e
    by_both true false e f = rw (e, f)
    by_both true true e f = absurd (omega (arith, leb-true (length (bytes_of_tree t)) room f))

module _ (t : Fragment) (out₀ out : List ℕ) (price : Price) (nodes : ℕ) where
  put_all : {n cost never : ℕ} → cost ≡ cost_bits price → never ≡ never_flag price → Wrote t out₀ out (Some n) →
      Compiles (fitting (length out₀) t price nodes) out₀ out (Ok (record { bytes = n; cost = cost; never = never; nodes = nodes }))
  put_all bits flag (wrote few long room is) =
      answers.compiles (bytes_of_tree t) price (fits_in t (length out₀) price nodes few (omega (arith, long, room))) bits flag long is

  put-none : Wrote t out₀ out None → Compiles (fitting (length out₀) t price nodes) out₀ out (Err Refusal.OutputTooSmall)
  put-none (too_small why same) = answers.refuses (too_large t (length out₀) price nodes why) same

module _ {pol m : List ℕ} {e : ℕ} (h : Writable pol m e) (out₀ out : List ℕ) {w : Option ℕ}
    (wrote : Wrote (seen pol m e).tree out₀ out w) where
  pub puts : (n : ℕ) → w ≡ Some n → {price : Price} {cost never nodes : ℕ} → price ≡ price_at m root_probs e →
      cost ≡ cost_bits price → never ≡ never_flag price → nodes ≡ node_count m →
      Compiles (fitting (length out₀) (seen pol m e).tree (cost_at root_probs (seen pol m e)) (node_count m)) out₀ out
      (Ok (record { bytes = n; cost = cost; never = never; nodes = nodes }))
  puts n is {price} {cost} {never} {nodes} c bits flag k =
      let same : cost_at root_probs (seen pol m e) ≡ price = seen-price pol m root_probs e h.readable.there ∙ sym c in
      subst (λ (x : Price). Compiles (fitting (length out₀) (seen pol m e).tree x (node_count m)) out₀ out (Ok (record { bytes = n; cost = cost; never = never; nodes = nodes }))) (sym same)
      (subst (λ (x : ℕ). Compiles (fitting (length out₀) (seen pol m e).tree price x) out₀ out (Ok (record { bytes = n; cost = cost; never = never; nodes = nodes }))) k
      (put_all (seen pol m e).tree out₀ out price nodes bits flag (subst (λ (x : Option ℕ). Wrote (seen pol m e).tree out₀ out x) is wrote)))

  pub puts-nothing : w ≡ None →
      Compiles (fitting (length out₀) (seen pol m e).tree (cost_at root_probs (seen pol m e)) (node_count m)) out₀ out
      (Err Refusal.OutputTooSmall)
  puts-nothing is =
      put-none (seen pol m e).tree out₀ out (cost_at root_probs (seen pol m e)) (node_count m)
      (subst (λ (x : Option ℕ). Wrote (seen pol m e).tree out₀ out x) is wrote)

-- ---- the policy of a number

gives-it : {c : Context} {P : Candidate → Type 0} {s s' : State} {a : Candidate} → Gives c P s (done a s') → P a
gives-it (gives p g k) = p

module _ (c : Context) (pol : List ℕ) (root : ℕ) {r : Result ℕ Refusal} {m : List ℕ} (w : Whole pol root)
    (f : Finds (best_compilation c (policy_at pol root) (state 0 [])) pol r m) where
  found_as : (answer : Result ℕ Refusal) → r ≡ answer → best_compilation c (policy_at pol root) (state 0 []) ≡ root_answer pol m (state_in pol m) answer
  found_as answer e = f.says ∙ ap (λ (x : Result ℕ Refusal). root_answer pol m (state_in pol m) x) e

  pub writable : (e : ℕ) → r ≡ Ok e → Writable pol m e
  writable e is =
      let there : e < node_count m = subst (λ (x : Result ℕ Refusal). IsRoot m x) is f.there in
      let well = (best_compilation-keeps c (policy_at pol root) w.formed).from (state 0 []) (start-proper c) in
      let root-well : RootWell c (seen pol m e) =
      gives-it (subst (λ (x : Res Candidate). Gives c (RootWell c) (state 0 []) x) (found_as (Ok e) is) well) in
      record {
        readable = record { holds = f.holds; good = w.classed.good; there = there };
        formed = root-well.entry.good.formed;
      }

  outcome-as : (room : ℕ) (answer : Result ℕ Refusal) → r ≡ answer → compile_policy c room (policy_at pol root) ≡ outcome room (root_answer pol m (state_in pol m) answer)
  unfolding compile_policy
  outcome-as room answer e = ap (λ (x : Res Candidate). outcome room x) (found_as answer e)

  pub refused-root : (out : List ℕ) (n : Refusal) → r ≡ Err n → Compiles (compile_policy c (length out) (policy_at pol root)) out out (Err n)
  refused-root out n e = answers.refuses (outcome-as (length out) (Err n) e) refl

  pub compiled-root : (out₀ out : List ℕ) (e : ℕ) → r ≡ Ok e → {a : Result Compiled Refusal} →
      Compiles (fitting (length out₀) (seen pol m e).tree (cost_at root_probs (seen pol m e)) (node_count m)) out₀ out a →
      Compiles (compile_policy c (length out₀) (policy_at pol root)) out₀ out a
  compiled-root out₀ out e is {a} h =
      let count : node_count m ≡ node_count m - 2 + 2 = omega (arith, f.holds.two) in
      subst (λ (o : Outcome). Compiles o out₀ out a) (sym (outcome-as (length out₀) (Ok e) is))
      (subst
      (λ (n : ℕ). Compiles (fitting (length out₀) (seen pol m e).tree (cost_at root_probs (seen pol m e)) n) out₀ out a)
      count
      h)
