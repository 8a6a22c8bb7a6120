-- The Thresh over a row of nodes, from the Thresh of `best_compilations` in policy/compiler.rs, by the definition (definition,
-- specs/Candidates.antt: thresh_of) on what the nodes stand for. Assumes nothing.
use Rattle.candidates.specs.declared.NotMade.{NotMade}
use Rattle.std.specs.Prelude.{Bool, true, false, List, map, ◌≡◌, ℕ, suc, ◌≤◌, length, take, Result, Ok, Err}
use Rattle.contexts.specs.declared.Context.{Context}
use Rattle.types.specs.declared.«Type».{«Type»}
use Rattle.types.specs.TypeRules as type
use Rattle.figures.specs.declared.ExtData.{ExtData}
use Rattle.figures.specs.Validity.{from_ast}
use Rattle.thresholds.specs.Threshold.{threshold}
use Rattle.costs.specs.declared.Cost.{Cost}
use Rattle.costs.specs.Rules as cost
use Rattle.policies.specs.Forms.{k_of, children_of}
use Rattle.policies.specs.Array.{policy_at}
use Rattle.definition.specs.Candidates as definition
use Rattle.candidates.specs.declared.Candidate.{Candidate}
use Rattle.candidates.specs.Pairs.{made_as}
use Rattle.memory.specs.Layout.{node_count, row_count}
use Rattle.nodes.specs.Words.{node_at}
use Rattle.nodes.specs.Views.{seen_all}
use Rattle.nodes.specs.Answers.{thresh_kind, Holds, Grows, SameTables}
use Rattle.nodes.specs.Offers.{Offerable, made_seen}

-- the Thresh of k of some nodes, which record r is; passed over where `from_ast` does not take it
pub record MakesThresh (c : Context) (r k n : ℕ) (row : List ℕ) (m₀ m : List ℕ) (x : Result Candidate NotMade) : Type 0 where
  pub says : (pol : List ℕ) → k_of (policy_at pol r) ≡ k → length (children_of (policy_at pol r)) ≡ n
      → made_seen pol m x ≡ definition.thresh_of c k (seen_all pol m₀ (take n row))
  pub holds : Holds m
  pub grows : Grows m₀ m
  pub tables : SameTables m₀ m
  pub count : node_count m ≡ node_count m₀
  pub rows : row_count m ≤ suc (row_count m₀)
  pub offers : (y : Candidate) → x ≡ Ok y → Offerable m y

-- ---- the same of the nodes

abbrev pub types_of : List ℕ → List ℕ → List «Type»
types_of m row = map (λ e. (node_at m e).ty) row

abbrev pub exts_of : List ℕ → List ℕ → List ExtData
exts_of m row = map (λ e. (node_at m e).ext) row

abbrev pub costs_of : List ℕ → List ℕ → List Cost
costs_of m row = map (λ e. (node_at m e).cost) row

abbrev pub if_valid : Bool → Result Candidate NotMade → Result Candidate NotMade
if_valid true x = x
if_valid false x = Err NotMade.PassedOver

-- with no row yet, of given figures
abbrev pub thresh_with : ExtData → List ℕ → (r k n : ℕ) → List ℕ → Result Candidate NotMade
thresh_with d m r k n row = made_as thresh_kind r 0 0 (type.threshold k (types_of m row)) d (cost.threshold k n (costs_of m row))

abbrev pub thresh_at : Context → List ℕ → (r k n : ℕ) → List ℕ → Result Candidate NotMade
thresh_at c m r k n row =
    if_valid (from_ast c 0 (threshold k (exts_of m row))) (thresh_with (threshold k (exts_of m row)) m r k n row)

-- a candidate with its row
abbrev pub with_row : Candidate → ℕ → Candidate
with_row y row = record { kind = y.kind; first = y.first; second = row; third = y.third; ty = y.ty; ext = y.ext; cost = y.cost }
