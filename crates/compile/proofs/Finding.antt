-- The search of the root begins where nothing is remembered, and its table's choice is the definition's. Assumes nothing.
use Rattle.refusals.specs.declared.Refusal.{Refusal}
use Rattle.std.specs.Prelude.{None, Result, Err, Ok}
use mathlib.Core.List.{List, [], map}
use mathlib.Core.Path.{◌≡◌, sym, ap, subst, ◌∙◌}
use Prim.Native.Nat.{ℕ, ◌-◌, ◌<◌}
use native.Mathlib.Omega.{arith}
use Rattle.contexts.specs.declared.Context.{Context}
use Rattle.policies.specs.Policy.{Policy}
use Rattle.definition.specs.Tables.{Table}
use Rattle.definition.specs.Candidates.{Candidate}
use Rattle.definition.specs.Refusals.{State, state, then, M}
use Rattle.definition.specs.Search.{search, chosen, cheapest, is_base_b}
use Rattle.definition.specs.Compile.{root_probs, if_safe, best_compilation}
use Rattle.definition_laws.proofs.Steps.{then-done, then-refused, best_compilation-steps}
use Rattle.memory.specs.Layout.{table_count}
use Rattle.nodes.specs.Answers.{Begun}
use Rattle.cache.specs.Slots.{slots_up_to}
use Rattle.search_state.specs.State.{state_in, stored_as, stored_all}
use Rattle.search_state.specs.Recalled.{Searched, out_answer, IsSlot}
use Rattle.search.specs.Searching.{Going}
use Rattle.compile.specs.Answers.{Whole, Choosable, Picks, Finds}

pub goes : {pol m : List ℕ} {root : ℕ} → Whole pol root → Begun m → Going 0 pol root None m
goes w b =
    record {
      classed = w.classed;
      named = w.named;
      formed = w.formed;
      ready =
          record {
            nodes = b.holds;
            tables = record { long = b.holds.long; few = omega (arith, b.tables) };
            slots = λ s h. absurd (omega (arith, b.tables, h));
          };
      room = omega (arith, b.rows, b.tables, w.light);
    }

begun-state : {m : List ℕ} → Begun m → (pol : List ℕ) → state_in pol m ≡ state 0 []
unfolding slots_up_to
begun-state {m} b pol =
    ap (λ (n : ℕ). state (n - 2) (stored_all pol m)) b.count
    ∙ ap (λ (n : ℕ). state 0 (map (stored_as pol m) (slots_up_to m n))) b.tables

-- what follows the search
abbrev after : Table → M Candidate
after t s = then (chosen (cheapest root_probs is_base_b t) s) λ x s. if_safe x s

module _ (c : Context) (pol : List ℕ) (q : Policy) {o : Result ℕ Refusal} {m₀ m : List ℕ} (b : Begun m₀)
    (h : Searched (search c q root_probs (state_in pol m₀)) pol o m₀ m) where
  searched : (answer : Result ℕ Refusal) → o ≡ answer → search c q root_probs (state 0 []) ≡ out_answer pol m answer
  searched answer e =
      ap (λ (s : State). search c q root_probs s) (sym (begun-state b pol)) ∙ h.says ∙ ap (λ (x : Result ℕ Refusal). out_answer pol m x) e

  pub no_table : (n : Refusal) → o ≡ Err n → Finds (best_compilation c q (state 0 [])) pol (Err n) m
  no_table n e =
      record {
        says = best_compilation-steps c q (state 0 []) ∙ then-refused after (searched (Err n) e);
        holds = h.ready.nodes;
        there = tt;
      }

  pub choosable : (s : ℕ) → o ≡ Ok s → Choosable m s
  choosable s e =
      let there : s < table_count m = subst (λ (x : Result ℕ Refusal). IsSlot m x) e h.slot in
      record { kept = h.ready.tables; there = there; below = (h.ready.slots s there).below }

  pub picked : (s : ℕ) → o ≡ Ok s → {r : Result ℕ Refusal} → Picks m s r → Finds (best_compilation c q (state 0 [])) pol r m
  picked s e p =
      record {
        says = best_compilation-steps c q (state 0 []) ∙ then-done after (searched (Ok s) e) ∙ p.says pol (state_in pol m);
        holds = h.ready.nodes;
        there = p.there;
      }
