-- What compiling a policy leaves, by the definition (definition, specs/Compile.antt): document 01, "Records" (the output) and "Numbers the
-- console shows". A refusal leaves the output as it was, and so do done calls past the bytes written. Assumes nothing.
use Rattle.refusals.specs.Numbers.{number_of}
use Rattle.refusals.specs.declared.Refusal.{Refusal}
use Rattle.std.specs.Prelude.{List, ◌++◌, ◌≡◌, ℕ, ◌<◌, ◌≤◌, length, drop, Result, Ok, Err}
use Rattle.costs.specs.declared.Price.{Price}
use Rattle.costs.specs.Price.{cost_bits, never_flag}
use Rattle.policies.specs.Policy.{weight}
use Rattle.policies.specs.Array.{policy_at, Named}
use Rattle.writing.specs.WellFormed.{AllBelow, WellFormed}
use Rattle.definition.specs.Candidates.{Candidate}
use Rattle.definition.specs.Refusals.{Res, done, refused, then, State}
use Rattle.definition.specs.Search.{chosen, cheapest, is_base_b}
use Rattle.definition.specs.Compile.{Outcome, compiled, refused_with, root_probs, if_safe}
use Rattle.definition_laws.specs.FormedPolicy.{FormedPolicy}
use Rattle.memory.specs.Layout.{node_count, table_count}
use Rattle.nodes.specs.Views.{seen}
use Rattle.nodes.specs.Answers.{Holds}
use Rattle.cache.specs.Slots.{slot_at, Kept}
use Rattle.search_state.specs.State.{Classed, state_in, slot_table}
use Rattle.output.specs.Answers.{Readable}
use Rattle.compile.specs.declared.Compiled.{Compiled}

-- ---- what compile leaves

-- the bytes stand at the front of the output, with how many they are, what is told of the cost, and the nodes used; or a refusal
pub data Compiles (o : Outcome) (out₀ out : List ℕ) : Result Compiled Refusal → Type 0 where
  compiles : {c : Compiled} (bytes : List ℕ) (price : Price)
      → o ≡ compiled bytes price c.nodes
      → c.cost ≡ cost_bits price
      → c.never ≡ never_flag price
      → length bytes ≡ c.bytes
      → out ≡ bytes ++ drop c.bytes out₀
      → Compiles o out₀ out (Ok c)
  refuses : {r : Refusal} → o ≡ refused_with (number_of r) → out ≡ out₀ → Compiles o out₀ out (Err r)

-- ---- the root

-- what the choice of the root answers: a node, or a refusal
abbrev pub root_answer : (pol m : List ℕ) → State → Result ℕ Refusal → Res Candidate
root_answer pol m s (Ok e) = done (seen pol m e) s
root_answer pol m s (Err r) = refused (number_of r)

abbrev pub IsRoot : List ℕ → Result ℕ Refusal → Type 0
IsRoot m (Ok e) = e < node_count m
IsRoot m (Err r) = Unit {0}

-- a table that is remembered, its entries being nodes
pub record Choosable (m : List ℕ) (s : ℕ) : Type 0 where
  pub kept : Kept m
  pub there : s < table_count m
  pub below : AllBelow (node_count m) (slot_at m s).entries

-- the cheapest of base B, which must be safe
pub record Picks (m : List ℕ) (s : ℕ) (r : Result ℕ Refusal) : Type 0 where
  pub says : (pol : List ℕ) (st : State) →
      then (chosen (cheapest root_probs is_base_b (slot_table pol m s)) st) (λ x s. if_safe x s) ≡ root_answer pol m st r
  pub there : IsRoot m r

-- a policy that was read
pub record Whole (pol : List ℕ) (root : ℕ) : Type 0 where
  pub classed : Classed pol
  pub named : Named pol root
  pub formed : FormedPolicy (policy_at pol root)
  pub light : weight (policy_at pol root) ≤ 190

-- what the search of the root leaves
pub record Finds (res : Res Candidate) (pol : List ℕ) (r : Result ℕ Refusal) (m : List ℕ) : Type 0 where
  pub says : res ≡ root_answer pol m (state_in pol m) r
  pub holds : Holds m
  pub there : IsRoot m r

-- a node whose tree can be written
pub record Writable (pol m : List ℕ) (e : ℕ) : Type 0 where
  pub readable : Readable pol m e
  pub formed : WellFormed (seen pol m e).tree
